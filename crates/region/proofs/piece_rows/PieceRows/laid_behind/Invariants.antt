use Rattle.std.proofs.Common.{◌≡◌, ◌+◌, ◌*◌, ◌++◌, length, map, take}
use Rattle.region.specs.Filled.{filled}
use Rattle.region.specs.Listing.{listed}
use Rattle.region.specs.Pieces.{laid_pieces}
use Rattle.region.specs.Rows.{blank, laid}
use Rattle.region.proofs.piece_rows.PieceRows.laid_behind.Given as goal

abbrev pub invariant-loop-p : goal.invariant-loop-p
invariant-loop-p l =
    (length l.rows ≡ 288)
    × (take (96 + 16 * l.p) l.rows ≡ laid 96 blank (listed l.main) ++ laid_pieces (map filled (take l.p l.self.pieces)))
