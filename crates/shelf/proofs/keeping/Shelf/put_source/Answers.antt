use Rattle.std.proofs.Common.{◌≡◌, ◌+◌, ◌*◌, ◌≤◌, length, replicate, rules}
use Rattle.std.proofs.lemmas.List.{map-set}
use Rattle.shelf.proofs.Writes.{written_twice}
use Rattle.shelf.proofs.keeping.Shelf.put_source.Goals as goal

pub returns-clause-after : goal.returns-clause-after
returns-clause-after c =
    let p = c.in_ok-place.ensures in
    let none = c.default.ensures in
    let d = c.in_ok-draft.draft in
    let long : length d.rows ≡ 96 = search rules in
    let room : 384 * c.args.region + 96 ≤ length c.args.rows.now = search rules in
    rw (
      ← p.value,
      ← c.in_ok-draft.ensures,
      map-set,
      none.1.0,
      none.1.1,
      c.write_at-2.ensures,
      c.write_at.ensures,
      p.first_row,
      written_twice (384 * c.args.region) 96 d.rows (replicate 288 c.blank.result) c.args.rows.now long room,
      c.blank.ensures,
      c.write_at-3.ensures,
      p.first_label,
    )
