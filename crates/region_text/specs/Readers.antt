-- What a reader has read: labels lie in a table, and the rest beside it. No rule of the text stands here.
use Rattle.std.specs.Prelude.{List, map}
use Rattle.numbering.specs.Used.{used}
use Rattle.region.specs.declared.label.LabelRow.{LabelRow}
use Rattle.region.specs.Listing.{listed, listed_pieces}
use Rattle.region_text.specs.declared.body.DeclaredLabels.{DeclaredLabels}
use Rattle.region_text.specs.declared.body.SourceBody.{SourceBody}
use Rattle.region_text.specs.declared.body.ScheduleBody.{ScheduleBody}
use Rattle.region_text.specs.Sources.{Reading}
use Rattle.region_text.specs.Schedules.{Scheduling}

abbrev pub labels_of : DeclaredLabels → List LabelRow
labels_of d = map (λ d. d.row) (used d.table)

abbrev pub reading : SourceBody → Reading
reading b = record { labels = labels_of b.labels; rows = listed b.rows; end = b.end }

abbrev pub scheduling : ScheduleBody → Scheduling
scheduling b = record { labels = b.labels.now; rows = listed b.rows; end = b.end; pieces = listed_pieces b.pieces; at = b.at }
