-- A record and its cycle: the bytes of a cycle within its numbers say that cycle, but for the low byte; and the cycle that four bytes say has these bytes.
-- Assumes nothing.
use mathlib.Core.Path.{◌≡◌, refl, sym, ap, ◌∙◌}
use mathlib.Core.Bool.{Bool, true, false}
use mathlib.Core.List.{List, [], ◌∷◌}
use Prim.Native.Nat.{ℕ, zero, suc, ◌+◌, ◌*◌, ◌/◌, ◌%◌, ◌^◌, ◌<◌, ◌≤◌}
use native.Mathlib.Nat.{mod-lt, mod-eq_of_lt, one-mul, zero-mul}
use native.Mathlib.Omega.{arith}
use lib.Bits.{or_shifted_r}
use lib.Dec.{eqb, ltb}
use borrow.Author.Tests.{ltb-false, le-ltb}
use Rattle.rules.proofs.FlagLaws.{has-bit}
use Rattle.rules.specs.Flags.{has, with, flag_if}
use Rattle.rules.specs.Masks.{READ, NORMAL}
use Rattle.rules.specs.Recording.{bus_status}
use Rattle.rules.specs.Refusals.{out_of_range}
use Rattle.rules.specs.declared.Cycle.{Cycle}
use Rattle.theorems_runs.proofs.Tests.{or_l, or_r}
use Rattle.theorems_runs.specs.LowByte.{bare_cycle}
use Rattle.trace_records.specs.Layout.{DMA, SELECT, RESET}
use Rattle.trace_records.specs.Trace.{cycle_of}
use Rattle.trace_writer.specs.Writing.{record_bytes}

-- ---- a flag as a number
bit : Bool → ℕ
bit on = flag_if on 1

bit_small : (on : Bool) → bit on < 2
unfolding bit
bit_small true = omega arith
bit_small false = omega arith

bit-told : (on : Bool) → eqb (bit on) 1 ≡ on
unfolding bit
bit-told true = refl
bit-told false = refl

-- a flag above all bits that stand is added
added : (on : Bool) (k x : ℕ) → x < 2 ^ k → with x (flag_if on (2 ^ k)) ≡ bit on * 2 ^ k + x
unfolding bit
added true k x h = ap (with x) (sym (one-mul (2 ^ k))) ∙ or_shifted_r 1 k x h
added false k x h = ap (with x) (sym (zero-mul (2 ^ k))) ∙ or_shifted_r 0 k x h

-- a flag that is found in a number
found : (x k : ℕ) → bit (has x (2 ^ k)) ≡ x / 2 ^ k % 2
unfolding bit
found x k = ap bit (has-bit x k) ∙ by (x / 2 ^ k % 2) (mod-lt (x / 2 ^ k) (omega arith))
  where
    by : (r : ℕ) → r < 2 → bit (eqb r 1) ≡ r
    by zero h = refl
    by (suc zero) h = refl
    by (suc (suc r)) h = absurd (omega arith)

-- ---- the first two bytes, as sums
abbrev first : (status : ℕ) → (read normal dma select : Bool) → ℕ
first status read normal dma select =
    with (with (with (with (status % 16) (flag_if read READ)) (flag_if normal NORMAL)) (flag_if dma DMA)) (flag_if select SELECT)

first_sum : (s : ℕ) (read normal dma select : Bool)
    → first s read normal dma select ≡ bit select * 128 + (bit dma * 64 + (bit normal * 32 + (bit read * 16 + s % 16)))
first_sum s read normal dma select =
    let low : s % 16 < 2 ^ 4 = mod-lt s (omega arith) in
    let r = added read 4 (s % 16) low in
    let r' = bit_small read in
    let n = added normal 5 (bit read * 16 + s % 16) (omega arith) in
    let n' = bit_small normal in
    let d = added dma 6 (bit normal * 32 + (bit read * 16 + s % 16)) (omega arith) in
    let d' = bit_small dma in
    let l = added select 7 (bit dma * 64 + (bit normal * 32 + (bit read * 16 + s % 16))) (omega arith) in
    ap (λ (x : ℕ). with (with (with x (flag_if normal NORMAL)) (flag_if dma DMA)) (flag_if select SELECT)) r
    ∙ ap (λ (x : ℕ). with (with x (flag_if dma DMA)) (flag_if select SELECT)) n
    ∙ ap (λ (x : ℕ). with x (flag_if select SELECT)) d
    ∙ l

-- the digits of such a sum
module _ (s r n d l : ℕ) (hs : s < 16) (hr : r < 2) (hn : n < 2) (hd : d < 2) (hl : l < 2) where
  abbrev total : ℕ
  total = l * 128 + (d * 64 + (n * 32 + (r * 16 + s)))

  digit_s : total % 16 ≡ s
  digit_s = omega arith

  digit_r : total / 16 % 2 ≡ r
  digit_r = let q : total / 16 ≡ r + 2 * (n + (2 * d + 4 * l)) = omega arith in omega arith

  digit_n : total / 32 % 2 ≡ n
  digit_n = let q : total / 32 ≡ n + 2 * (d + 2 * l) = omega arith in omega arith

  digit_d : total / 64 % 2 ≡ d
  digit_d = let q : total / 64 ≡ d + 2 * l = omega arith in omega arith

  digit_l : total / 128 % 2 ≡ l
  digit_l = let q : total / 128 ≡ l = omega arith in omega arith

-- ---- there: a cycle within its numbers
small : (c : Cycle) → out_of_range c ≡ false → (c.status < 16) × (c.segment < 128)
unfolding out_of_range
small c e =
    let s = ltb-false 15 c.status (or_l (ltb 15 c.status) (ltb 127 c.segment) e) in
    let g = ltb-false 127 c.segment (or_r (ltb 15 c.status) (ltb 127 c.segment) e) in
    (omega arith, omega arith)

-- a flag is found where the number has it
told : (on : Bool) (x k : ℕ) → x / 2 ^ k % 2 ≡ bit on → has x (2 ^ k) ≡ on
told on x k e = has-bit x k ∙ ap (λ (b : ℕ). eqb b 1) e ∙ bit-told on

-- the first byte
module _ (status : ℕ) (read normal dma select : Bool) (h : status < 16) where
  abbrev byte0 : ℕ
  byte0 = first status read normal dma select

  abbrev sum0 : ℕ
  sum0 = bit select * 128 + (bit dma * 64 + (bit normal * 32 + (bit read * 16 + status)))

  is_sum : byte0 ≡ sum0
  is_sum =
      first_sum status read normal dma select
      ∙ ap (λ (s : ℕ). bit select * 128 + (bit dma * 64 + (bit normal * 32 + (bit read * 16 + s)))) (mod-eq_of_lt h)

  status_told : byte0 % 16 ≡ status
  status_told =
      ap (λ (b : ℕ). b % 16) is_sum
      ∙ digit_s status (bit read) (bit normal) (bit dma) (bit select) h (bit_small read) (bit_small normal) (bit_small dma) (bit_small select)

  read_told : has byte0 READ ≡ read
  read_told =
      told read byte0 4
      (ap (λ (b : ℕ). b / 16 % 2) is_sum
      ∙ digit_r status (bit read) (bit normal) (bit dma) (bit select) h (bit_small read) (bit_small normal) (bit_small dma) (bit_small select))

  normal-told : has byte0 NORMAL ≡ normal
  normal-told =
      told normal byte0 5
      (ap (λ (b : ℕ). b / 32 % 2) is_sum
      ∙ digit_n status (bit read) (bit normal) (bit dma) (bit select) h (bit_small read) (bit_small normal) (bit_small dma) (bit_small select))

  dma-told : has byte0 DMA ≡ dma
  dma-told =
      told dma byte0 6
      (ap (λ (b : ℕ). b / 64 % 2) is_sum
      ∙ digit_d status (bit read) (bit normal) (bit dma) (bit select) h (bit_small read) (bit_small normal) (bit_small dma) (bit_small select))

  select_told : has byte0 SELECT ≡ select
  select_told =
      told select byte0 7
      (ap (λ (b : ℕ). b / 128 % 2) is_sum
      ∙ digit_l status (bit read) (bit normal) (bit dma) (bit select) h (bit_small read) (bit_small normal) (bit_small dma) (bit_small select))

-- the second byte
module _ (segment : ℕ) (reset : Bool) (h : segment < 128) where
  abbrev byte1 : ℕ
  byte1 = with segment (flag_if reset RESET)

  is_sum1 : byte1 ≡ bit reset * 128 + segment
  is_sum1 = added reset 7 segment h

  segment-told : byte1 % 128 ≡ segment
  segment-told = let s = is_sum1 in omega arith

  reset-told : has byte1 RESET ≡ reset
  reset-told =
      let s = is_sum1 in
      let r = bit_small reset in
      let q : byte1 / 128 ≡ bit reset = omega arith in
      told reset byte1 7 (omega arith)

pub says : (c : Cycle) → out_of_range c ≡ false → cycle_of (record_bytes c) ≡ bare_cycle c
unfolding cycle_of record_bytes bus_status
says c e =
    let h = small c e in λ i. record {
      status = status_told c.status c.read c.normal c.dma c.select h.0 i;
      read = read_told c.status c.read c.normal c.dma c.select h.0 i;
      normal = normal-told c.status c.read c.normal c.dma c.select h.0 i;
      dma = dma-told c.status c.read c.normal c.dma c.select h.0 i;
      select = select_told c.status c.read c.normal c.dma c.select h.0 i;
      segment = segment-told c.segment c.reset h.1 i;
      offset = c.offset;
      low = 0;
      byte = c.byte;
      reset = reset-told c.segment c.reset h.1 i;
    }

-- ---- and back: a number by its bits, from those below
up_to_32 : (b : ℕ) → b / 16 % 2 * 16 + b % 16 ≡ b % 32
up_to_32 b = omega arith

up_to_64 : (b : ℕ) → b / 32 % 2 * 32 + b % 32 ≡ b % 64
up_to_64 b = omega arith

up_to_128 : (b : ℕ) → b / 64 % 2 * 64 + b % 64 ≡ b % 128
up_to_128 b = omega arith

up_to_256 : (b : ℕ) → b < 256 → b / 128 % 2 * 128 + b % 128 ≡ b
up_to_256 b h = omega arith

-- four bytes
module _ (b0 b1 b2 b3 : ℕ) (h0 : b0 < 256) (h1 : b1 < 256) where
  abbrev four : List ℕ
  four = b0 ∷ b1 ∷ b2 ∷ b3 ∷ []

  status_within : b0 % 16 ≤ 15
  status_within = omega arith

  segment-within : b1 % 128 ≤ 127
  segment-within = omega arith

  low_again : b0 % 16 % 16 ≡ b0 % 16
  low_again = omega arith

  with-bit : (k x : ℕ) → bit (has b0 (2 ^ k)) * 2 ^ k + x ≡ b0 / 2 ^ k % 2 * 2 ^ k + x
  with-bit k x = ap (λ (y : ℕ). y * 2 ^ k + x) (found b0 k)

  byte0_again : first (b0 % 16) (has b0 READ) (has b0 NORMAL) (has b0 DMA) (has b0 SELECT) ≡ b0
  byte0_again =
      first_sum (b0 % 16) (has b0 READ) (has b0 NORMAL) (has b0 DMA) (has b0 SELECT)
      ∙ ap (λ (x : ℕ). bit (has b0 SELECT) * 128 + (bit (has b0 DMA) * 64 + (bit (has b0 NORMAL) * 32 + (bit (has b0 READ) * 16 + x)))) low_again
      ∙ ap (λ (x : ℕ). bit (has b0 SELECT) * 128 + (bit (has b0 DMA) * 64 + (bit (has b0 NORMAL) * 32 + x))) (with-bit 4 (b0 % 16) ∙ up_to_32 b0)
      ∙ ap (λ (x : ℕ). bit (has b0 SELECT) * 128 + (bit (has b0 DMA) * 64 + x)) (with-bit 5 (b0 % 32) ∙ up_to_64 b0)
      ∙ ap (λ (x : ℕ). bit (has b0 SELECT) * 128 + x) (with-bit 6 (b0 % 64) ∙ up_to_128 b0)
      ∙ with-bit 7 (b0 % 128)
      ∙ up_to_256 b0 h0

  byte1_again : with (b1 % 128) (flag_if (has b1 RESET) RESET) ≡ b1
  byte1_again =
      added (has b1 RESET) 7 (b1 % 128) (omega arith) ∙ ap (λ (x : ℕ). x * 128 + b1 % 128) (found b1 7) ∙ up_to_256 b1 h1

  pub within_numbers : out_of_range (cycle_of four) ≡ false
  unfolding cycle_of out_of_range
  within_numbers = simp (le-ltb 15 (b0 % 16) status_within, le-ltb 127 (b1 % 128) segment-within)

  pub told-again : record_bytes (cycle_of four) ≡ four
  unfolding cycle_of record_bytes bus_status
  told-again = λ i. byte0_again i ∷ byte1_again i ∷ b2 ∷ b3 ∷ []
