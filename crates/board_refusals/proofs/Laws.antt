-- One unit more, and what all units come to.
-- Assumes nothing.
use mathlib.Core.Path.{◌≡◌, refl, sym, ◌∙◌, ap}
use mathlib.Core.Bool.{Bool, true, false, not, cond, ◌&&◌, ◌||◌, or-false, or_assoc}
use mathlib.Core.List.{List, [], ◌∷◌, map}
use mathlib.Core.Option.{Option, none, some}
use Rattle.std.specs.Option.{option_or}
use Rattle.std.specs.Prelude.{Some, None, is_some, option_map}
use Rattle.std.specs.Prelude.{Option as Optional}
use Prim.Native.Nat.{ℕ, suc}
use native.Mathlib.Omega.{arith}
use lib.Dec.{eqb}
use Rattle.rules.specs.Bus.{cpu, write}
use Rattle.rules.specs.Codes.{command_of}
use Rattle.rules.specs.Numbers.{refusal_number}
use Rattle.rules.specs.Refusals.{damaged, out_of_range}
use Rattle.rules.specs.declared.Command.{Command}
use Rattle.rules.specs.declared.Command.TheVariants.{Mr, Sar, Dscr, Show, Entry, Act, Unlisted}
use Rattle.rules.specs.declared.Cycle.{Cycle}
use Rattle.rules.specs.declared.Registers.{Registers}
use Rattle.board_rules.specs.Board.{Seat, seen_by, Refusal, some_of, two_of, requests, verdict}
use Rattle.theorems_runs.specs.Cycles.{memory_cycle, listed, read_only}
use Rattle.theorems_runs.specs.Refusal.{earliest}
use Rattle.theorems_runs.proofs.Codes.{is_show, is_act, is_listed, show-codes, act-codes, listed-codes}
use Rattle.theorems_boards.specs.Numbers.{seat_number, lowest_from, own_of, seat_drives, seat_commanded, in_order}
use Rattle.theorems_boards.proofs.Lists.{two_and}
use Rattle.theorems_boards.proofs.Numbers.{verdict_is}
use Rattle.board_refusals.specs.Judged.{code_refusal, asking, own_refusal_of, own_verdict, given_or, given, unjudged, judging}
use Rattle.board_refusals.specs.Judged.{refuses, refusal_by, refusal_in, Judgement, two_ahead, ahead}
use Rattle.board_refusals.specs.declared.Judged.{Judged}
use Rattle.board_refusals.specs.declared.Verdict.{Verdict}

-- Own numbers

-- the lowest of a unit and of those behind it, by the four conditions
lowest_turn : (m : Command) (read two one command select : Bool) (i : ℕ) (os : List (Option ℕ))
    → given_or (own_verdict i (cond two (Some 2) (cond one (Some 1) (cond (command && select) (option_map refusal_number (code_refusal m read)) None))))
    (lowest_from (suc i) os)
    ≡ lowest_from i
    (earliest two one ((command && select) && not (is_listed m)) ((command && select) && (not read && is_show m || read && is_act m)) ∷ os)
unfolding lowest_from
lowest_turn m read true one command select i os = refl
lowest_turn m read false true command select i os = refl
lowest_turn m read false false false select i os = refl
lowest_turn m read false false true false i os = refl
lowest_turn Mr true false false true true i os = refl
lowest_turn Mr false false false true true i os = refl
lowest_turn Sar true false false true true i os = refl
lowest_turn Sar false false false true true i os = refl
lowest_turn Dscr true false false true true i os = refl
lowest_turn Dscr false false false true true i os = refl
lowest_turn (Show g) true false false true true i os = refl
lowest_turn (Show g) false false false true true i os = refl
lowest_turn (Entry p) true false false true true i os = refl
lowest_turn (Entry p) false false false true true i os = refl
lowest_turn (Act a) true false false true true i os = refl
lowest_turn (Act a) false false false true true i os = refl
lowest_turn Unlisted true false false true true i os = refl
lowest_turn Unlisted false false false true true i os = refl

-- a command to the units that are selected is one to this unit
and-three : (a b x y : Bool) → (a && b && x && y) ≡ (a && b && (x && y))
and-three true true x y = refl
and-three true false x y = refl
and-three false b x y = refl

pub commanded_is : (c : Cycle) (s : Seat) → ((asking c).command && s.select) ≡ seat_commanded c s
unfolding seen_by
commanded_is c s = and-three (not c.reset) (eqb c.status 3) (cpu c) s.select

module _ (i : ℕ) (c : Cycle) (s : Seat) (os : List (Option ℕ)) where
  own-next : given_or (own_verdict i (own_refusal_of s.unit.registers s.select (asking c))) (lowest_from (suc i) os) ≡ lowest_from i (seat_number c s ∷ os)
  unfolding seen_by out_of_range
  own-next =
      let m : Command = command_of c.offset in
      let two : Bool = damaged s.unit.registers in
      lowest_turn m c.read two (out_of_range c) (asking c).command s.select i os
      ∙ ap (λ (t : Bool). lowest_from i (earliest two (out_of_range c) (t && not (is_listed m)) (t && (write c && is_show m || c.read && is_act m)) ∷ os))
      (commanded_is c s)
      ∙ ap (λ (t : Bool). lowest_from i (earliest two (out_of_range c) (seat_commanded c s && not t)
      (seat_commanded c s && (write c && is_show m || c.read && is_act m)) ∷ os)) (listed-codes c.offset)
      ∙ ap (λ (t : Bool). lowest_from i (earliest two (out_of_range c) (seat_commanded c s && not (listed c.offset))
      (seat_commanded c s && (write c && t || c.read && is_act m)) ∷ os)) (show-codes c.offset)
      ∙ ap (λ (t : Bool). lowest_from i (earliest two (out_of_range c) (seat_commanded c s && not (listed c.offset))
      (seat_commanded c s && (write c && read_only c.offset || c.read && t)) ∷ os)) (act-codes c.offset)

-- Each part of what is ahead

own_turn : (held own : Optional Verdict) (later here : Option Refusal) → given_or own later ≡ here
    → given_or (option_or held own) later ≡ given_or held here
own_turn (Some v) own later here q = refl
own_turn None own later here q = q

two_turn : (p : Seat → Bool) (one two x : Bool) (s : Seat) (ss : List Seat) → x ≡ p s
    → two_ahead p (one || x) (two || (one && x)) ss ≡ two_ahead p one two (s ∷ ss)
unfolding some_of two_of
two_turn p one two x s ss e = rw e (go one two (p s) (some_of p ss) (two_of p ss))
  where
    go : (one two x any more : Bool) → ((two || (one && x)) || cond (one || x) any more) ≡ (two || cond one (x || any) (cond x any more))
    go one true x any more = refl
    go true false true any more = refl
    go true false false any more = refl
    go false false true any more = refl
    go false false false any more = refl

-- one unit more is judged as the next of the seats
pub judged_turn : (j : Judged) (i : ℕ) (c : Cycle) (s : Seat) (ss : List Seat)
    → ahead (judging j i s.unit.registers s.select c (asking c)) (suc i) c ss ≡ ahead j i c (s ∷ ss)
unfolding judging ahead some_of
judged_turn j i c s ss =
    let r : Registers = s.unit.registers in
    let own = own_turn j.own (own_verdict i (own_refusal_of r s.select (asking c))) (lowest_from (suc i) (map (seat_number c) ss))
    (lowest_from i (seat_number c s ∷ map (seat_number c) ss)) (own-next i c s (map (seat_number c) ss)) in
    let clash = two_turn (λ s. memory_cycle c && seat_drives c s) j.drives j.clash (memory_cycle c && seat_drives c s) s ss refl in
    let several = two_turn (seat_commanded c) j.command j.several ((asking c).command && s.select) s ss (commanded_is c s) in
    let command = or_assoc j.command ((asking c).command && s.select) (some_of (seat_commanded c) ss)
    ∙ ap (λ (t : Bool). j.command || (t || some_of (seat_commanded c) ss)) (commanded_is c s) in
    let stood = or_assoc j.stood r.notes.request (some_of requests ss) in
    λ x. record { own = own x; clash = clash x; command = command x; several = several x; stood = stood x }

-- Where no unit is left

-- what is known of all seats
pub record Known (j : Judged) (c : Cycle) (ss : List Seat) : Type 0 where
  pub own : given j.own ≡ own_of c ss
  pub clash : j.clash ≡ two_of (λ s. memory_cycle c && seat_drives c s) ss
  pub command : j.command ≡ some_of (seat_commanded c) ss
  pub several : j.several ≡ two_of (seat_commanded c) ss
  pub stood : j.stood ≡ some_of requests ss

pub known : (j : Judged) (i : ℕ) (c : Cycle) (ss : List Seat) → ahead j i c [] ≡ ahead unjudged 0 c ss → Known j c ss
unfolding ahead some_of two_of lowest_from
known j i c ss e = record {
  own = ap (λ (k : Judgement). k.own) e;
  clash = sym (or-cond j.clash j.drives) ∙ ap (λ (k : Judgement). k.clash) e;
  command = sym (or-false j.command) ∙ ap (λ (k : Judgement). k.command) e;
  several = sym (or-cond j.several j.command) ∙ ap (λ (k : Judgement). k.several) e;
  stood = sym (or-false j.stood) ∙ ap (λ (k : Judgement). k.stood) e;
}
  where
    or-cond : (a b : Bool) → (a || cond b false false) ≡ a
    or-cond true b = refl
    or-cond false true = refl
    or-cond false false = refl

-- The verdict

verdict_by_lem : (own : Optional Verdict) (clash both : Bool)
    → in_order false (given own) clash both ≡ cond (is_some own || (clash || both)) (some (refusal_by own clash)) none
verdict_by_lem (Some v) clash both = refl
verdict_by_lem None true both = refl
verdict_by_lem None false true = refl
verdict_by_lem None false false = refl

-- what the board refuses is what was judged
pub verdict_known : (j : Judged) (c : Cycle) (ss : List Seat) → Known j c ss
    → verdict c ss ≡ cond (refuses j c.read) (some (refusal_in j)) none
verdict_known j c ss k =
    verdict_is c ss
    ∙ ap (λ (o : Option Refusal). in_order false o (memory_cycle c && two_of (seat_drives c) ss) (c.read && two_of (seat_commanded c) ss)) (sym k.own)
    ∙ ap (λ (t : Bool). in_order false (given j.own) t (c.read && two_of (seat_commanded c) ss)) (sym (two_and (memory_cycle c) (seat_drives c) ss) ∙ sym k.clash)
    ∙ ap (λ (t : Bool). in_order false (given j.own) j.clash (c.read && t)) (sym k.several)
    ∙ verdict_by_lem j.own j.clash (c.read && j.several)

-- what a verdict of `refuses` says
pub refused_by : (b : Bool) (r s : Refusal) → some r ≡ cond b (some s) none → (b ≡ true) × (r ≡ s)
refused_by true r s e = (refl, cc)
refused_by false r s e = let z : ◌≡◌ {A = ℕ} 0 1 = cc in absurd (omega arith)

pub accepted_by : (b : Bool) (s : Refusal) → none ≡ cond b (some s) none → b ≡ false
accepted_by true s e = let z : ◌≡◌ {A = ℕ} 0 1 = cc in absurd (omega arith)
accepted_by false s e = refl
