-- A step of a walk that gives some bytes.
use Rattle.std.proofs.Common.{◌≡◌, ℕ, ◌<◌, List, ◌++◌, length, sym, ap, ◌∙◌, append_assoc}
use Rattle.tbl_format.specs.Format.{FormatRow}
use Rattle.tbl_kept.specs.Rows.{KeptRows}
use Rattle.tbl_picture.specs.ElementsWalked.{CanWalk, Steps, steps_left, still_to_come}
use Rattle.tbl_pieces.specs.PieceQueue.{AddsFitting, KeptPieces, bytes_left}
use Rattle.tbl_pieces.specs.Pieces.{AreWithin}
use Rattle.tbl_picture.specs.Walks.{KeptWalk}

pub gives : (bytes frame : List ℕ) (formats : List FormatRow) (rows : KeptRows) (w : KeptWalk) (before after : KeptPieces)
    → AreWithin bytes frame before.pieces → (new : KeptWalk) (text : List ℕ) → AddsFitting bytes frame before after text
    → still_to_come bytes formats rows w ≡ text ++ still_to_come bytes formats rows new
    → 0 < length (still_to_come bytes formats rows w)
    → CanWalk bytes formats rows new → steps_left bytes formats rows new < steps_left bytes formats rows w → new.room ≡ w.room
    → Steps bytes frame formats rows w new before after
gives bytes frame formats rows w before after within new text adds lines some can_new less room = record {
  some = some;
  can = can_new;
  less = less;
  same =
      ap (λ (front : List ℕ). front ++ still_to_come bytes formats rows new) (adds.adds.left within)
      ∙ append_assoc (bytes_left bytes frame before) text (still_to_come bytes formats rows new)
      ∙ ap (λ (rest : List ℕ). bytes_left bytes frame before ++ rest) (sym lines);
  within = adds.adds.within within;
  fits = adds.fits;
  grown = adds.adds.grown;
  pieces_room = adds.adds.room;
  room = room;
}
