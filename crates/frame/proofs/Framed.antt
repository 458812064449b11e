-- What is printed of a frame, by what its reading finds.
-- Assumes nothing.
use Prim.Native.Nat.{ℕ, ◌*◌, ◌≤◌}
use mathlib.Core.Path.{◌≡◌}
use mathlib.Core.List.{List}
use lib.ListN.{take}
use Rattle.lent.specs.declared.refusal.Refusal.{Refusal}
use Rattle.lent.specs.Verdicts.{number_of}
use Rattle.records.specs.Table.{record_bytes}
use Rattle.lines.specs.Lines.{Line, most_bytes, most_lines}
use Rattle.print.specs.Printed.{refusal_line}
use Rattle.report.specs.Output.{unless_refused, replied}
use Rattle.frame.specs.Glance.{replied_to}
use Rattle.lines.specs.inner.Reading.{ReadFrame}
use Rattle.std.specs.Prelude.{Result, Ok, Err}
use Rattle.lines.specs.declared.input.Frame.{Frame}

-- what is printed for a frame, as its reading found it
module _ (ls : List Line) (s t : List ℕ) {r : Result Frame Refusal} (h : ReadFrame ls s t r) where
  pub frame-unreadable : {b : Refusal} → r ≡ Err b → replied_to ls ≡ refusal_line (number_of b.condition) b.detail
  unfolding replied_to unless_refused ReadFrame
  frame-unreadable e = rw (← (rw e at h))

  pub frame-given : {f : Frame} → r ≡ Ok f
      → (f.bytes ≤ most_bytes) × (f.records ≤ most_lines) × (replied_to ls ≡ replied (take f.bytes s) (take (record_bytes * f.records) t) f.offset)
  unfolding replied_to unless_refused ReadFrame
  frame-given {f} e = done (rw e at h)
    where
      done : ReadFrame ls s t (Ok f) → (f.bytes ≤ most_bytes) × (f.records ≤ most_lines) × (replied_to ls ≡ replied (take f.bytes s) (take (record_bytes * f.records) t) f.offset)
      done q = (q.1, q.4, rw (← q.0, q.2, q.5, q.3))
