use Rattle.std.proofs.lemmas.List.{map-set}
use Rattle.shelf.proofs.keeping.Shelf.drop_region.Goals as goal

pub returns-clause-after : goal.returns-clause-after
returns-clause-after c =
    let p = c.in_ok-place.ensures in
    let none = c.default.ensures in
    rw (← p.value, map-set, none.0, none.1.0, none.1.1, c.write_at.ensures, c.blank.ensures, p.first_row, c.write_at-2.ensures, c.unused.ensures, p.first_label)
