use Rattle.std.proofs.Common.{◌≡◌, ◌+◌, ◌*◌, ◌++◌, length, get_or, take, drop, map, replicate, sym, ap, ◌∙◌, arith, append-nil, length-append, length-drop}
use lib.ListN.{length-replicate}
use Rattle.std.proofs.lemmas.List.{take_all, take_at}
use Rattle.region.specs.Filled.{filled}
use Rattle.region.specs.Listing.{listed}
use Rattle.region.specs.Pieces.{laid_pieces}
use Rattle.region.specs.Rows.{blank, laid}
use Rattle.region.proofs.Filling.{places}
use Rattle.region.proofs.Schedules.{laid_long, laid_on, laid_apart}
use Rattle.region.proofs.piece_rows.PieceRows.laid_behind.Goals as goal

pub loop-p-init : goal.loop-p-init
loop-p-init c =
    let main = c.args.main.now in
    let first = laid 96 blank (listed main) in
    let long : length first ≡ 96 = ap length (sym main.rows.padded) ∙ places main.rows in
    let e : c.lay.new.rows ≡ first ++ drop 96 (replicate 288 c.blank-rows.result) = c.lay.ensures in (
      ap length e ∙ length-append first (drop 96 (replicate 288 c.blank-rows.result)) ∙ omega (arith, long, length-drop 96 (replicate 288 c.blank-rows.result), length-replicate 288 c.blank-rows.result),
      ap (take 96) e ∙ take_at first (drop 96 (replicate 288 c.blank-rows.result)) 96 long ∙ sym (append-nil first),
    )

pub loop-p-preserved : goal.loop-p-preserved
loop-p-preserved c =
    let l = c.loop-p in
    let bs = c.args.self.now.pieces in
    let main = laid 96 blank (listed c.args.main.now) in
    let few = c.loop-p-test.true in
    let all = c.args.self.now.twelve in
    let d = c.piece-item.result in
    let e : c.lay-in-loop-p.new.rows ≡ take (96 + 16 * l.p) l.rows ++ (laid 16 blank (filled (get_or bs l.p d)) ++ drop (96 + 16 * l.p + 16) l.rows) = c.lay-in-loop-p.ensures in
    (ap length e ∙ laid_long bs l.rows main l.p d l.invariant.0 few all, ap (take _) e ∙ laid_on bs l.rows main l.p d l.invariant.0 few all l.invariant.1)

pub returns : goal.returns
returns c =
    let l = c.loop-p in
    let bs = c.args.self.now.pieces in
    let main = laid 96 blank (listed c.args.main.now) in
    let done : l.p ≡ 12 = omega arith in
    sym (take_all (96 + 16 * l.p) l.rows (omega (arith, l.invariant.0)))
    ∙ l.invariant.1
    ∙ ap (λ xs. main ++ laid_pieces (map filled xs)) (take_all l.p bs (omega (arith, c.args.self.now.twelve)))
    ∙ ap (λ xs. main ++ xs) (laid_apart 8 (map filled bs))
