-- The units of a board after a cycle: each is the single unit, a refusal leaves all, those past the count stay, and undamaged ones stay so.
-- Assumes nothing.
use mathlib.Core.Path.{◌≡◌, refl, sym, ◌∙◌, ap, subst}
use mathlib.Core.Bool.{Bool, true, false, cond}
use mathlib.Core.List.{List, [], ◌∷◌, map}
use mathlib.Core.Option
use mathlib.Core.Option.{Option, none, some}
use Prim.Native.Nat.{ℕ}
use native.Mathlib.Omega.{arith}
use lib.ListN.{get_or, take-append-drop}
use lib.Seq.{length_front}
use Rattle.rules.specs.Kinds.{number_in}
use Rattle.rules.specs.PowerOn.{power_on}
use Rattle.rules.specs.Runs.{final}
use Rattle.rules.specs.Step.{stepped}
use Rattle.rules.specs.declared.Answer.{Answer}
use Rattle.rules.specs.declared.Cycle.{Cycle}
use Rattle.rules.specs.declared.Kind.{Kind}
use Rattle.rules.specs.declared.Unit.{Unit}
use Rattle.theorems_runs.specs.Sequences.{Every}
use Rattle.theorems_runs.specs.Undamaged.{Undamaged}
use Rattle.theorems_runs.proofs.Undamaged.{undamaged_after, undamaged_from_power_on}
use Rattle.board_rules.specs.Board.{seats_of, seen_by, answer_of, afterwards, some_of, Refusal, wrong_count, verdict, requests}
use Rattle.board_rules.specs.Board.{joined, answer_by, units_by, seats_answer, seats_after, board_answer_by, board_units_by, board_answer, board_after}
use Rattle.board_rules.specs.Board.{silent, board_final}
use Rattle.board_rules.specs.declared.Board.{Board}
use Rattle.board_rules.specs.declared.BoardCycle.{BoardCycle}
use Rattle.theorems_boards.specs.Seats.{live, unit_at, cycle_at, refusal_of, given}
use Rattle.theorems_boards.specs.Numbers.{asks, BoardAsItStood, BoardRefusalLeaves}
use Rattle.theorems_boards.specs.Alone.{EachAlone, heard, EachAloneThroughout, HoldsOfEach}
use Rattle.theorems_boards.specs.Alone.{BoardStaysUndamaged, board_on, BoardFromPowerOn, PastStay, PastTheCount}
use Rattle.theorems_boards.proofs.Lists.{front_drop, every_map, every_imp, every_take}
use Rattle.theorems_boards.proofs.Lists.{seats_units, seats_some, seats_every, seated_at}
use Rattle.theorems_boards.proofs.Live.{after-length, live_right, live-length}
use Rattle.theorems_boards.proofs.Numbers.{seats_number}

-- A board that does not refuse: its count is good, the verdict is none, its answer is joined, and each unit is stepped

pub map_none : (v : Option Refusal) → Option.map (λ r. r.number) v ≡ none → v ≡ none
map_none none e = refl
map_none (some r) e = let z : ◌≡◌ {A = ℕ} 0 1 = cc in absurd (omega arith)

pub record Unrefused (b : Board) (c : BoardCycle) : Type 0 where
  pub count : wrong_count b.count ≡ false
  pub accepts : verdict c.cycle (seats_of b c.selects) ≡ none
  pub answer : board_answer b c ≡ joined (map (answer_of c.cycle) (seats_of b c.selects))
  pub units : live (board_after b c) ≡ map (afterwards c.cycle) (seats_of b c.selects)

module _ (b : Board) (c : BoardCycle) (e : refusal_of b c ≡ none) where
  count_good : wrong_count b.count ≡ false
  unfolding board_answer
  count_good = go (wrong_count b.count) e
    where
      go : (t : Bool) → number_in (board_answer_by t b c).answer.kind ≡ none → t ≡ false
      go true e = let z : ◌≡◌ {A = ℕ} 0 1 = cc in absurd (omega arith)
      go false e = refl

  answer_right : board_answer b c ≡ seats_answer c.cycle (seats_of b c.selects)
  unfolding board_answer
  answer_right = rw count_good

  none_said : verdict c.cycle (seats_of b c.selects) ≡ none
  none_said = map_none _ (sym (seats_number c.cycle (seats_of b c.selects)) ∙ (rw answer_right at e))

  pub unrefused : Unrefused b c
  unfolding seats_answer seats_after
  unrefused =
      record {
        count = count_good;
        accepts = none_said;
        answer = answer_right ∙ rw none_said;
        units = live_right b c count_good ∙ rw none_said;
      }

pub each_alone : EachAlone
each_alone b c i e h =
    ap (λ (us : List Unit). get_or us i power_on) (unrefused b c e).units
    ∙ seated_at (afterwards c.cycle) (live b) c.selects i power_on power_on h

-- Past the count

-- one cycle leaves them, and the number of units within the count too
past_once : (b : Board) (c : BoardCycle) → PastStay b (board_after b c)
unfolding board_after
past_once b c = go (wrong_count b.count)
  where
    go : (t : Bool) → PastStay b (record { units = board_units_by t b c; count = b.count })
    go true = record { past = refl; count = refl; size = refl }
    go false =
        record {
          past = front_drop b.count b.units (seats_after c.cycle (seats_of b c.selects)) (after-length b c);
          count = refl;
          size = length_front b.units (seats_after c.cycle (seats_of b c.selects)) b.count (after-length b c);
        }

pub past_the_count : PastTheCount
unfolding board_final board_after
past_the_count b [] = record { past = refl; count = refl; size = refl }
past_the_count b (c ∷ cs) =
    let p : PastStay b (board_after b c) = past_once b c in
    let q : PastStay (board_after b c) (board_final (board_after b c) cs) = past_the_count (board_after b c) cs in
    record {
      past = q.past ∙ p.past;
      count = q.count ∙ p.count;
      size = q.size ∙ p.size;
    }

-- What a refusal leaves

module _ (b : Board) (c : BoardCycle) (n : ℕ) where
  abbrev left : Kind → Answer
  left k = silent k (some_of requests (seats_of b c.selects))

  seats_left : (v : Option Refusal) → Option.map (λ r. r.number) v ≡ some n
      → (units_by v c.cycle (seats_of b c.selects) ≡ live b)
      × ((answer_by v c.cycle (seats_of b c.selects)).answer ≡ left (answer_by v c.cycle (seats_of b c.selects)).answer.kind)
  seats_left none e = let z : ◌≡◌ {A = ℕ} 0 1 = cc in absurd (omega arith)
  seats_left (some r) e = (seats_units (live b) c.selects, refl)

pub board_refusal_leaves : BoardRefusalLeaves
unfolding board_answer board_after seats_answer seats_after
board_refusal_leaves b c n h = go (wrong_count b.count) refl h
  where
    go : (t : Bool) → wrong_count b.count ≡ t → number_in (board_answer_by t b c).answer.kind ≡ some n
        → BoardAsItStood b (record { board = record { units = board_units_by t b c; count = b.count }; answer = board_answer_by t b c })
    go true w q = record { address = refl; sup = refl; trap = rw w; drives = refl; byte = refl; distance = refl; board = refl }
    go false w q =
        let said : Option.map (λ r. r.number) (verdict c.cycle (seats_of b c.selects)) ≡ some n =
        sym (seats_number c.cycle (seats_of b c.selects)) ∙ q in
        let l = seats_left b c n (verdict c.cycle (seats_of b c.selects)) said in
        record {
          address = rw l.1;
          sup = rw l.1;
          trap = rw (l.1, w) (seats_some asks (live b) c.selects);
          drives = rw l.1;
          byte = rw l.1;
          distance = rw l.1;
          board = rw (l.0, take-append-drop b.count b.units);
        }

-- a board after a cycle, refused or not
pub either_way : (P : Board → Type 0) (b : Board) (c : BoardCycle) → P b → (refusal_of b c ≡ none → P (board_after b c)) → P (board_after b c)
either_way P b c before after = go (refusal_of b c) refl
  where
    go : (o : Option ℕ) → refusal_of b c ≡ o → P (board_after b c)
    go none e = after e
    go (some n) e = subst P (sym (board_refusal_leaves b c n e).board) before

-- Over every list of cycles

pub each_alone_throughout : EachAloneThroughout
unfolding board_final heard final
each_alone_throughout [] b i h = refl
each_alone_throughout (c ∷ cs) b i h = each_alone_throughout cs (board_after b c) i (rw (live-length b c) h) ∙ go (refusal_of b c) refl
  where
    rest : List Cycle
    rest = heard i (board_after b c) cs

    go : (o : Option ℕ) → refusal_of b c ≡ o
        → final (unit_at i (board_after b c)) rest ≡ final (unit_at i b) (cond (given o) rest (cycle_at i c ∷ rest))
    go none e = ap (λ (u : Unit). final u rest) (each_alone b c i e h)
    go (some n) e = ap (λ (a : Board). final (unit_at i a) rest) (board_refusal_leaves b c n e).board

module _ (P : Unit → Type 0) (step : (u : Unit) (c : Cycle) → P u → P (stepped u c).unit) where
  each_once : (b : Board) (c : BoardCycle) → Every P (live b) → Every P (live (board_after b c))
  each_once b c h =
      either_way (λ a. Every P (live a)) b c h
      (λ e. rw (unrefused b c e).units
      (every_map P (afterwards c.cycle) (seats_of b c.selects)
      (every_imp _ _ (λ s. step s.unit (seen_by s.select c.cycle)) (seats_of b c.selects) (seats_every P (live b) c.selects h))))

  each_always : (b : Board) (cs : List BoardCycle) → Every P (live b) → Every P (live (board_final b cs))
  unfolding board_final
  each_always b [] h = h
  each_always b (c ∷ cs) h = each_always (board_after b c) cs (each_once b c h)

pub holds_of_each : HoldsOfEach
holds_of_each = (
  each_always,
  (λ R true_of b c i e h. rw (each_alone b c i e h) (true_of (unit_at i b) (cycle_at i c))),
  (λ P b i h reached cs. rw (each_alone_throughout cs b i h) (reached (heard i b cs))),
)

-- Undamaged units

pub board_stays_undamaged : BoardStaysUndamaged
board_stays_undamaged = holds_of_each.0 Undamaged undamaged_after

pub board_from_power_on : BoardFromPowerOn
unfolding final
board_from_power_on size count cs =
    board_stays_undamaged (board_on size count) cs (every_take Undamaged count size power_on (undamaged_from_power_on []))
