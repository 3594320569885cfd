-- What a caller may rely on that keeps a unit in bytes. Each claim is proved under `proofs/`.
use Rattle.std.specs.Prelude.{◌≡◌, List, [], ◌∷◌, ℕ, ◌<◌, ◌≤◌, length, get_or}
use Rattle.std.proofs.lemmas.List.Edits.{sets}
use Rattle.rules.specs.Runs.{answers, final}
use Rattle.rules.specs.declared.Answer.{Answer}
use Rattle.rules.specs.declared.Cycle.{Cycle}
use Rattle.rules.specs.declared.Kind.TheVariants.{Refused}
use Rattle.rules.specs.declared.Unit.{Unit}
use Rattle.unit_stores.specs.Word.{byte_values}
use Rattle.unit_bytes.specs.Snapshot.{segments, unit_size, unit_in, unit_bytes}
use Rattle.unit_bytes.specs.Cycled.{answer_of, bytes_after}

-- numbers that are bytes, as those of every buffer are
abbrev pub Bytes : List ℕ → Type 0
Bytes l = (i : ℕ) → get_or l i 0 < byte_values

-- CLAIM: a refused cycle leaves every byte as it stood, in a damaged unit and with strange notes too.
abbrev pub RefusalKeeps : Type 0
RefusalKeeps = (unit : List ℕ) (c : Cycle) (n : ℕ) → Bytes unit → (answer_of unit c).kind ≡ Refused n → bytes_after unit c ≡ unit

-- CLAIM: a unit that was put into a buffer with room is the unit that is found there.
abbrev pub FoundAgain : Type 0
FoundAgain = (l : List ℕ) (u : Unit) → unit_size ≤ length l → length u.table ≡ segments → unit_in (sets l 0 (unit_bytes u)) ≡ u

-- the answers of one call after another, each on the bytes that the one before it left
unfoldable pub calls : (unit : List ℕ) → List Cycle → List Answer
calls unit [] = []
calls unit (c ∷ cs) = answer_of unit c ∷ calls (bytes_after unit c) cs

-- the bytes that the last of them leaves
unfoldable pub left : (unit : List ℕ) → List Cycle → List ℕ
left unit [] = unit
left unit (c ∷ cs) = left (bytes_after unit c) cs

-- CLAIM: they are the answers of the run, and the bytes that are left are those of its last unit, put where the first unit's were, with
-- all behind them as it stood; from every unit with 64 descriptors, a damaged one too; so from power-on.
abbrev pub CallsAreTheRun : Type 0
CallsAreTheRun = (l : List ℕ) (u : Unit) (cs : List Cycle) → unit_size ≤ length l → length u.table ≡ segments
    → (calls (sets l 0 (unit_bytes u)) cs ≡ answers u cs) × (left (sets l 0 (unit_bytes u)) cs ≡ sets l 0 (unit_bytes (final u cs)))
