-- The two lines at the end of a run: why its file is not written, or what to do.
use Rattle.std.specs.Prelude.{◌==◌, ◌&&◌, ℕ, not, List, [], codes, Option, Some, None, unwrap_or}
use Rattle.std.specs.Prelude.{if◌then◌else◌}
use Rattle.fx_words.specs.Parts.{PartsView, Text}
use Rattle.fx_front.specs.Lines.{unwritten}
use Rattle.fx_front.specs.Advised.{first_line, second_line}
use Rattle.fx_front.specs.declared.facts.Facts.{Facts}
use Rattle.fx_front.specs.declared.run.Ended.{Ended}

-- why a file is not written: it could not be made, and the run failed for that; or the run was done, and it did not get its name
abbrev pub why_unwritten : Ended → Option Text
why_unwritten ended =
    if ended.is_unmade && ended.status == 1 then Some (codes "no file can be made in its folder")
    else (if ended.status == 0 && not ended.is_named then Some (codes "the system failed to store the new file") else None)

abbrev pub first_by : Option Text → Facts → Ended → PartsView → List ℕ
first_by (Some why) facts ended parts = unwritten (unwrap_or parts.output []) why
first_by None facts ended parts = first_line facts ended.status parts

abbrev pub second_by : Option Text → Facts → Ended → PartsView → Option Text → (List Text → Text) → (Text → List ℕ) → List ℕ
second_by (Some why) facts ended parts command wrong wrong_item = []
second_by None facts ended parts command wrong wrong_item =
    second_line facts ended.status ended.is_blank parts command wrong wrong_item

abbrev pub told_first : Facts → Ended → PartsView → List ℕ
told_first facts ended parts = first_by (why_unwritten ended) facts ended parts

abbrev pub told_second : Facts → Ended → PartsView → Option Text → (List Text → Text) → (Text → List ℕ) → List ℕ
told_second facts ended parts command wrong wrong_item =
    second_by (why_unwritten ended) facts ended parts command wrong wrong_item
