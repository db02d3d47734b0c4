use Rattle.std.proofs.Common.{◌≡◌, ℕ, ◌<◌, [], map, length, get_or, sym, ap, ◌∙◌, arith, rules}
use Rattle.std.proofs.lemmas.Grind.{same_number_lists}
use Rattle.std.proofs.lemmas.List.{length-map, get_or-map}
use Rattle.region.specs.Filled.{filled}
use Rattle.region.proofs.Schedules.{none_put, short}
use Rattle.region.proofs.piece_rows.PieceRows.lens.Goals as goal

each : (c : goal.After-map) (p : ℕ) → p < 12 → get_or c.map.result p 0 ≡ length (filled (get_or c.args.self.now.pieces p none_put))
each c p h = let w = c.map.ensures.items.at p none_put 0 h in search rules

lengths : (c : goal.After-map) → c.map.result ≡ map length (map filled c.args.self.now.pieces)
lengths c =
    let ps = c.args.self.now.pieces in
    let twelve = c.args.self.now.twelve in
    same_number_lists
    _
    _
    (c.map.ensures.items.long ∙ sym (length-map (map filled ps) length ∙ length-map ps filled ∙ twelve))
    (λ p h. each c p (omega (arith, c.map.ensures.items.long)) ∙ sym (get_or-map length (map filled ps) p [] 0 (omega (arith, length-map ps filled, twelve, c.map.ensures.items.long)) ∙ ap length (get_or-map filled ps p none_put [] (omega (arith, twelve, c.map.ensures.items.long)))))

pub returns-clause-lengths : goal.returns-clause-lengths
returns-clause-lengths c = lengths c

pub returns-clause-short : goal.returns-clause-short
returns-clause-short c = λ p. rw (lengths c) (short c.args.self.now.pieces p)
