-- Document 01, "Fetch", "SUP", and the last paragraph of "Recording": what is decided in a memory cycle.
use Rattle.std.specs.Prelude.{Bool, true, false, not, cond, ◌&&◌, ◌||◌, eqb}
use Rattle.rules.specs.Flags.{with, flag_if}
use Rattle.rules.specs.Masks.{REF, CHG}
use Rattle.rules.specs.Bus.{cpu, write, fetch, seven_bits}
use Rattle.rules.specs.Replies.{seen}
use Rattle.rules.specs.Checks.{distance_of, Findings, found}
use Rattle.rules.specs.Recording.{event_of, recorded}
use Rattle.rules.specs.PowerOn.{notes_of}
use Rattle.rules.specs.Registers.{with_notes}
use Rattle.rules.specs.Translation.{way_of, address_of}
use Rattle.rules.specs.declared.Change.{Change}
use Rattle.rules.specs.declared.Cycle.{Cycle}
use Rattle.rules.specs.declared.Decision.{Decision}
use Rattle.rules.specs.declared.Descriptor.{Descriptor}
use Rattle.rules.specs.declared.Kind.{Kind}
use Rattle.rules.specs.declared.Address.{Address}
use Rattle.rules.specs.declared.Registers.{Registers}
use Rattle.rules.specs.declared.Way.{Way}
use Rattle.rules.specs.declared.Change.TheVariants as change
use Rattle.rules.specs.declared.Kind.TheVariants as kind
use Rattle.rules.specs.declared.Way.TheVariants as way

-- Fetch

-- "If await is set, this is the aborted fetch"
abbrev pub aborts : Registers → Cycle → Bool
aborts r c = fetch c && r.notes.awaits

-- "await, own and hold are cleared"
unfoldable pub resumed : Registers → Registers
resumed r = with_notes r (notes_of r.notes.request false false false)

-- "the address is driven as below, SUP is off, and nothing is checked or recorded"; ticket 5: no distance
unfoldable pub aborted : Registers → Address → Decision
aborted r l = record {
  answer = seen kind.Aborted l false r.notes.request 0;
  registers = resumed r;
  change = change.Keep;
}

-- "Otherwise own and hold are cleared first, and the cycle goes on": the registers as a cycle begins that starts an instruction or not
unfoldable pub begun : Registers → (starts : Bool) → Registers
begun r starts =
    with_notes r (notes_of r.notes.request r.notes.awaits (r.notes.own && not starts) (r.notes.hold && not starts))

-- SUP. Below, r are the registers as the cycle begins.

-- "SUP is on exactly for a violation of this cycle, or, for any CPU memory cycle, translated or not, while hold was already set."
abbrev pub suppressed : (violation : Bool) → Registers → Cycle → Bool
suppressed violation r c = violation || cpu c && r.notes.hold

-- a cycle that is not translated: no check, no recording; ticket 5: no distance
unfoldable pub untranslated : Registers → Cycle → Address → Kind → Decision
untranslated r c l k = record {
  answer = seen k l (suppressed false r c) r.notes.request 0;
  registers = r;
  change = change.Keep;
}

-- "A translated cycle with SUP off, not an aborted fetch, sets REF, and CHG too if it writes."
unfoldable pub touched : Descriptor → Cycle → Descriptor
touched d c = record {
  base = d.base;
  limit = d.limit;
  attributes = with (with d.attributes REF) (flag_if (write c) CHG);
}

unfoldable pub touched_by : (sup : Bool) → Descriptor → Cycle → Change
touched_by true d c = change.Keep
touched_by false d c = change.Put (touched d c)

-- "A CPU read at %D translated without violation, not aborted, stores ISN [..] and IOFF while VTR is zero."
abbrev pub storing : Registers → Cycle → (violation : Bool) → Bool
storing r c violation = fetch c && not violation && eqb r.faults.vtr 0

-- ISN and IOFF stored, and hold set, where they are; ticket 2: ISN is the segment's seven bits
unfoldable pub noted : Registers → (stores holds : Bool) → Cycle → Registers
noted r stores holds c = record {
  control = r.control;
  faults = r.faults;
  fetched = record { isn = cond stores (seven_bits c) r.fetched.isn; ioff = cond stores c.offset r.fetched.ioff };
  notes = notes_of r.notes.request r.notes.awaits r.notes.own (r.notes.hold || holds);
  low = r.low;
}

-- a translated cycle, by what its checks find: it is recorded, and "Every CPU violation also sets hold."; ticket 5: "Every answer of a translated
-- cycle that is not an aborted fetch carries [the distance]; all other answers carry 0", so DMA's, and those of violations and while hold is set
unfoldable pub checked : Findings → Registers → Descriptor → Cycle → Address → Decision
checked f r d c l =
    let m : Registers = recorded r c (event_of c.dma f) in
    let sup : Bool = suppressed f.violation r c in
    record {
      answer = seen kind.Translated l sup m.notes.request (distance_of d c);
      registers = noted m (storing r c f.violation) (f.violation && cpu c) c;
      change = touched_by sup d c;
    }

unfoldable pub accessed : Registers → Descriptor → Cycle → Address → Decision
accessed r d c l = checked (found d c) r d c l

-- The memory cycle as a whole.

-- one that is no aborted fetch
abbrev pub through : Way → Registers → Descriptor → Cycle → Address → Decision
through way.Translated r d c l = accessed r d c l
through way.Passed r d c l = untranslated r c l kind.Passed
through way.Silent r d c l = untranslated r c l kind.Ignored

abbrev pub memory_by : (aborts : Bool) → Way → Registers → Descriptor → Cycle → Address → Decision
memory_by true w r d c l = aborted r l
memory_by false w r d c l = through w (begun r (fetch c)) d c l

-- a memory cycle, with its segment's descriptor
unfoldable pub memory : Registers → Descriptor → Cycle → Decision
memory r d c =
    let w : Way = way_of r.control.mr c in
    memory_by (aborts r c) w r d c (address_of w d.base c)
