-- What one turn does in the two loops over the units' bytes: the part of the turn is the next of those that are still to come.
-- Assumes nothing.
use mathlib.Core.Path.{◌≡◌, refl, sym, ap, ◌∙◌}
use mathlib.Core.List.{List, [], ◌∷◌, ◌++◌, map, append_assoc}
use Prim.Native.Nat.{ℕ, zero, suc, ◌+◌, ◌*◌, ◌-◌, ◌<◌, ◌≤◌, ◌/◌, ◌%◌}
use native.Mathlib.Nat.{add-sub_cancel_left}
use native.Mathlib.Numerals.{add-one}
use native.Mathlib.Omega.{arith}
use lib.Dec.{eqb}
use lib.ListN.{length, take, drop, length-append, length-drop, take-append-drop}
use lib.Seq.{drop-drop, length-take-le, take_at, drop_at}
use borrow.Rule.Slice.PartMut.{put_mid}
use Rattle.rules.specs.Step.{stepped}
use Rattle.rules.specs.declared.Answer.{Answer}
use Rattle.rules.specs.declared.Cycle.{Cycle}
use Rattle.unit_bytes.specs.InPlace.{in_place}
use Rattle.unit_bytes.specs.Snapshot.{unit_size, unit_in}
use Rattle.unit_bytes.proofs.InPlace.{in_place-length}
use Rattle.board_rules.specs.Board.{Seat, seated, seen_by, answer_of}
use Rattle.board_refusals.specs.Judged.{asking, judging}
use Rattle.board_refusals.specs.Judged.{ahead as judgedAhead}
use Rattle.board_refusals.specs.declared.Judged.{Judged}
use Rattle.board_refusals.proofs.Laws.{judged_turn}
use Rattle.board_answers.specs.Joint.{joining}
use Rattle.board_answers.specs.Joint.{ahead as joinedAhead}
use Rattle.board_answers.specs.declared.Joint.{Joint}
use Rattle.board_answers.proofs.Laws.{joined_turn}
use Rattle.board_bytes.specs.Boarded.{parts_in, part_at, held_registers, held_in, stepped_in}

-- the parts that are still to come after i of them
abbrev pub rest : List ℕ → (count i : ℕ) → List (List ℕ)
rest l count i = parts_in (drop (unit_size * i) l) (count - i)

-- the i-th unit's bytes as the code cuts them out
pub cut_is : (l : List ℕ) (i : ℕ) → take (unit_size * i + unit_size - unit_size * i) (drop (unit_size * i) l) ≡ part_at l i
cut_is l i = ap (λ (k : ℕ). take k (drop (unit_size * i) l)) (add-sub_cancel_left (unit_size * i) unit_size)

next-drop : (l : List ℕ) (i : ℕ) → drop unit_size (drop (unit_size * i) l) ≡ drop (unit_size * (i + 1)) l
next-drop l i =
    let next : unit_size * i + unit_size ≡ unit_size * (i + 1) = omega arith in
    drop-drop unit_size (unit_size * i) l ∙ ap (λ (k : ℕ). drop k l) next

-- one of them
pub rest_next : (l : List ℕ) (count i : ℕ) → i < count → rest l count i ≡ part_at l i ∷ rest l count (i + 1)
unfolding parts_in
rest_next l count i here =
    let more : count - i ≡ suc (count - (i + 1)) = omega arith in
    ap (λ (k : ℕ). parts_in (drop (unit_size * i) l) k) more
    ∙ ap (λ (m : List ℕ). part_at l i ∷ parts_in m (count - (i + 1))) (next-drop l i)

-- all of them, and none
pub rest_all : (l : List ℕ) (count : ℕ) → rest l count 0 ≡ parts_in l count
rest_all l count = let all : count - 0 ≡ count = omega arith in ap (λ (k : ℕ). parts_in l k) all

pub rest_none : (l : List ℕ) (count i : ℕ) → i ≡ count → rest l count i ≡ []
unfolding parts_in
rest_none l count i e = let none : count - i ≡ 0 = omega arith in ap (λ (k : ℕ). parts_in (drop (unit_size * i) l) k) none

-- a chunk of the bytes is the first of the parts, and the others are those of what stands behind it
module _ (k n : ℕ) (l part behind : List ℕ) (fewer : n + 1 ≡ k) (split : l ≡ part ++ behind) (size : length part ≡ unit_size) where
  next : parts_in l k ≡ part ∷ parts_in behind n
  unfolding parts_in
  next =
      let more : k ≡ suc n = omega (arith, fewer) in
      ap (λ (x : ℕ). parts_in l x) more
      ∙ ap (λ (m : List ℕ). take unit_size m ∷ parts_in (drop unit_size m) n) split
      ∙ ap (λ (p : List ℕ). p ∷ parts_in (drop unit_size (part ++ behind)) n) (take_at part behind unit_size size)
      ∙ ap (λ (m : List ℕ). part ∷ parts_in m n) (drop_at part behind unit_size size)

  -- there are bytes for them
  pub enough_left : unit_size * k ≤ length l → unit_size * n ≤ length behind
  enough_left enough = omega (arith, fewer, size, enough, ap length split ∙ length-append part behind)

  pub judge_turn : (j : Judged) (i left : ℕ) (c : Cycle)
      → judgedAhead (judging j i (held_registers part) (eqb (left % 2) 1) c (asking c)) (i + 1) c (seated (map held_in (parts_in behind n)) (left / 2))
      ≡ judgedAhead j i c (seated (map held_in (parts_in l k)) left)
  unfolding seated held_in
  judge_turn j i left c =
      let later : List Seat = seated (map held_in (parts_in behind n)) (left / 2) in
      ap (λ (x : ℕ). judgedAhead (judging j i (held_registers part) (eqb (left % 2) 1) c (asking c)) x c later) (add-one i)
      ∙ judged_turn j i c (record { unit = held_in part; select = eqb (left % 2) 1 }) later
      ∙ ap (λ (ps : List (List ℕ)). judgedAhead j i c (seated (map held_in ps) left)) (sym next)

-- no part is left where the chunks end, since they end only where no whole one is left
none_left : (n bytes : ℕ) → unit_size * n ≤ bytes → (0 < n → bytes < unit_size) → n ≡ 0
none_left zero bytes enough none = refl
none_left (suc n) bytes enough none = absurd (omega (arith, none (omega arith)))

pub judged_all : (n : ℕ) (l : List ℕ) (j : Judged) (i left : ℕ) (c : Cycle) → unit_size * n ≤ length l → (0 < n → length l < unit_size)
    → judgedAhead j i c [] ≡ judgedAhead j i c (seated (map held_in (parts_in l n)) left)
unfolding seated parts_in
judged_all n l j i left c enough none =
    ap (λ (k : ℕ). judgedAhead j i c (seated (map held_in (parts_in l k)) left)) (sym (none_left n (length l) enough none))

module _ (l : List ℕ) (count i left : ℕ) (c : Cycle) (here : i < count) where
  pub join_turn : (t : Joint)
      → joinedAhead (joining t i (stepped (unit_in (part_at l i)) (seen_by (eqb (left % 2) 1) c)).answer) (i + 1)
      (map (answer_of c) (seated (map unit_in (rest l count (i + 1))) (left / 2)))
      ≡ joinedAhead t i (map (answer_of c) (seated (map unit_in (rest l count i)) left))
  unfolding seated
  join_turn t =
      let x : Answer = (stepped (unit_in (part_at l i)) (seen_by (eqb (left % 2) 1) c)).answer in
      let later : List Answer = map (answer_of c) (seated (map unit_in (rest l count (i + 1))) (left / 2)) in
      ap (λ (k : ℕ). joinedAhead (joining t i x) k later) (add-one i)
      ∙ joined_turn t i x later
      ∙ ap (λ (ps : List (List ℕ)). joinedAhead t i (map (answer_of c) (seated (map unit_in ps) left))) (sym (rest_next l count i here))

-- The bytes: the first i units are stepped, and the others are still to be
abbrev pub nearly : Cycle → (count i left : ℕ) → List ℕ → List ℕ
nearly c count i left l = take (unit_size * i) l ++ stepped_in c (count - i) left (drop (unit_size * i) l)

pub nearly_all : (c : Cycle) (count selects : ℕ) (l : List ℕ) → nearly c count 0 selects l ≡ stepped_in c count selects l
nearly_all c count selects l = let all : count - 0 ≡ count = omega arith in ap (λ (k : ℕ). stepped_in c k selects l) all

pub nearly_none : (c : Cycle) (count i left : ℕ) (l : List ℕ) → i ≡ count → nearly c count i left l ≡ l
unfolding stepped_in
nearly_none c count i left l e =
    let none : count - i ≡ 0 = omega arith in
    ap (λ (k : ℕ). take (unit_size * i) l ++ stepped_in c k left (drop (unit_size * i) l)) none ∙ take-append-drop (unit_size * i) l

-- the bytes with those of unit i replaced, as the code puts them back
abbrev pub put : (l y : List ℕ) → (i : ℕ) → List ℕ
put l y i = put_mid (unit_size * i) (unit_size * i + unit_size - unit_size * i) l y

module _ (l y : List ℕ) (i : ℕ) (room : unit_size * (i + 1) ≤ length l) (wide : length y ≡ unit_size) where
  put_form : put l y i ≡ (take (unit_size * i) l ++ y) ++ drop (unit_size * (i + 1)) l
  put_form =
      ap (λ (k : ℕ). take (unit_size * i) l ++ (y ++ drop k (drop (unit_size * i) l))) (add-sub_cancel_left (unit_size * i) unit_size)
      ∙ ap (λ (m : List ℕ). take (unit_size * i) l ++ (y ++ m)) (next-drop l i)
      ∙ sym (append_assoc (take (unit_size * i) l) y (drop (unit_size * (i + 1)) l))

  front : length (take (unit_size * i) l ++ y) ≡ unit_size * (i + 1)
  front =
      let taken : length (take (unit_size * i) l) ≡ unit_size * i = length-take-le (unit_size * i) l (omega arith) in
      length-append (take (unit_size * i) l) y ∙ omega arith

  pub put-take : take (unit_size * (i + 1)) (put l y i) ≡ take (unit_size * i) l ++ y
  put-take = ap (take (unit_size * (i + 1))) put_form ∙ take_at (take (unit_size * i) l ++ y) (drop (unit_size * (i + 1)) l) (unit_size * (i + 1)) front

  pub put-drop : drop (unit_size * (i + 1)) (put l y i) ≡ drop (unit_size * (i + 1)) l
  put-drop = ap (drop (unit_size * (i + 1))) put_form ∙ drop_at (take (unit_size * i) l ++ y) (drop (unit_size * (i + 1)) l) (unit_size * (i + 1)) front

  pub put-length : length (put l y i) ≡ length l
  put-length =
      let behind : length (drop (unit_size * (i + 1)) l) ≡ length l - unit_size * (i + 1) = length-drop (unit_size * (i + 1)) l in
      ap length put_form ∙ length-append (take (unit_size * i) l ++ y) (drop (unit_size * (i + 1)) l) ∙ omega (arith, front, behind)

-- the i-th unit's bytes, stepped
abbrev pub done : List ℕ → (i left : ℕ) → Cycle → List ℕ
done l i left c = in_place (part_at l i) (seen_by (eqb (left % 2) 1) c)

module _ (l : List ℕ) (i left : ℕ) (c : Cycle) (room : unit_size * (i + 1) ≤ length l) where
  pub done_long : length (done l i left c) ≡ unit_size
  done_long =
      let behind : length (drop (unit_size * i) l) ≡ length l - unit_size * i = length-drop (unit_size * i) l in
      in_place-length (part_at l i) (seen_by (eqb (left % 2) 1) c) ∙ length-take-le unit_size (drop (unit_size * i) l) (omega arith)

  pub nearly_turn : (count : ℕ) → i < count → nearly c count (i + 1) (left / 2) (put l (done l i left c) i) ≡ nearly c count i left l
  unfolding stepped_in
  nearly_turn count here =
      let more : count - i ≡ suc (count - (i + 1)) = omega arith in
      let y : List ℕ = done l i left c in
      let m : List ℕ = put l y i in
      ap (λ (x : List ℕ). x ++ stepped_in c (count - (i + 1)) (left / 2) (drop (unit_size * (i + 1)) m)) (put-take l y i room done_long)
      ∙ ap (λ (x : List ℕ). (take (unit_size * i) l ++ y) ++ stepped_in c (count - (i + 1)) (left / 2) x) (put-drop l y i room done_long)
      ∙ append_assoc (take (unit_size * i) l) y (stepped_in c (count - (i + 1)) (left / 2) (drop (unit_size * (i + 1)) l))
      ∙ ap (λ (x : List ℕ). take (unit_size * i) l ++ (y ++ stepped_in c (count - (i + 1)) (left / 2) x)) (sym (next-drop l i))
      ∙ ap (λ (k : ℕ). take (unit_size * i) l ++ stepped_in c k left (drop (unit_size * i) l)) (sym more)
