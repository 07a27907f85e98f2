-- What stands in memory: what the text means, with as many zeros in the place of each page's bytes.
use Rattle.std.specs.Prelude.{ℕ, List, length, map}
use Rattle.stm_journal.specs.declared.kept.Kept.{Kept}
use Rattle.stm_journal.specs.declared.entry.Entry.{Entry}
use Rattle.stm_journal.specs.declared.entry.Entry.TheVariants.{Names, Opens, Keeps, Erases}
use Rattle.stm_journal.specs.declared.entry.Entry.TheVariants.{Programs, Ends, Undoes}
use Rattle.stm_journal.specs.States.{StateData, SegmentData}
use Rattle.stm_journal.specs.Blank.{blank}

-- an entry without the bytes of its page
abbrev pub forget_entry : Entry → Entry
forget_entry (Names version id unique) = Names version id unique
forget_entry (Opens k) = Opens k
forget_entry (Keeps n bytes) = Keeps n (blank (length bytes))
forget_entry (Erases n) = Erases n
forget_entry (Programs n) = Programs n
forget_entry (Ends k) = Ends k
forget_entry (Undoes k) = Undoes k

-- an entry with the bytes of its page
abbrev pub filled : Entry → List ℕ → Entry
filled (Names version id unique) held = Names version id unique
filled (Opens k) held = Opens k
filled (Keeps n bytes) held = Keeps n held
filled (Erases n) held = Erases n
filled (Programs n) held = Programs n
filled (Ends k) held = Ends k
filled (Undoes k) held = Undoes k

-- a kept page, a segment and a state without the bytes of their pages
abbrev pub forget_kept : Kept → Kept
forget_kept k = record { page = k.page; bytes = blank (length k.bytes); line = k.line; at = k.at }

abbrev pub forget_segment : SegmentData → SegmentData
forget_segment segment = record { pages = map forget_kept segment.pages; stage = segment.stage }

abbrev pub forget_state : StateData → StateData
forget_state s = record { header = s.header; stack = map forget_segment s.stack }
