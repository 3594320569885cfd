-- Every rule that stays shut, under one name: `unfolding computed` opens them all, for a test that the checker computes. A rule that is
-- added stands in one of these lists, and in no other.
use Rattle.std.specs.Prelude.{ℕ}
use Rattle.rules.specs.Refusals.{damaged, out_of_range}
use Rattle.rules.specs.Replies.{plain, refused, seen}
use Rattle.rules.specs.Status.{reset_by, acknowledge_byte, quieted, acknowledged, ignored, purpose_of, by_status}
use Rattle.rules.specs.Translation.{way_of, block_of, address_of}
use Rattle.rules.specs.Checks.{rights_of, out_of_length, distance_of, warns}
use Rattle.rules.specs.Recording.{event_of, bus_status, first_entry, added, raised, recorded}
use Rattle.rules.specs.Memory.{resumed, aborted, begun, untranslated, touched, touched_by, noted, checked}
use Rattle.rules.specs.Memory.{accessed, memory}
use Rattle.rules.specs.Codes.{command_of}
use Rattle.rules.specs.Entry.{byte_of, replaced, index_of, next_counter, next_segment, moved, written_by}
use Rattle.rules.specs.Commands.{replied, programmed, entry, restarted, acted, executed, commanded}
use Rattle.rules.specs.Step.{decided, place_of, changed, decision, after}
use Rattle.rules.specs.Runs.{answers, final, units}

unfoldable pub dispatching : ℕ
unfolding reset_by acknowledge_byte quieted acknowledged ignored purpose_of by_status
dispatching = 0

unfoldable pub replying : ℕ
unfolding damaged out_of_range plain refused seen
replying = 0

unfoldable pub checking : ℕ
unfolding way_of block_of address_of rights_of out_of_length distance_of warns
checking = 0

unfoldable pub entering : ℕ
unfolding event_of bus_status first_entry added raised recorded
entering = 0

unfoldable pub accessing : ℕ
unfolding resumed aborted begun untranslated touched touched_by noted checked accessed memory
accessing = 0

unfoldable pub commanding : ℕ
unfolding command_of replied programmed entry restarted acted executed commanded
commanding = 0

unfoldable pub moving : ℕ
unfolding byte_of replaced index_of next_counter next_segment moved written_by
moving = 0

unfoldable pub stepping : ℕ
unfolding decided place_of changed decision after answers final units
stepping = 0

unfoldable pub computed : ℕ
unfolding dispatching replying checking entering accessing commanding moving stepping
computed = 0
