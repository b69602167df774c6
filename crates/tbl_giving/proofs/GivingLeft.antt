-- What is still to give of a table, behind the pieces that follow.
use Rattle.std.proofs.Common.{◌≡◌, ℕ, ◌+◌, ◌-◌, ◌^◌, ◌<◌, ◌≤◌, Bool, true, false, List, [], ◌∷◌, ◌++◌, length, take, drop, refl, sym, ap, subst, ◌∙◌, arith, append_assoc, ◌==◌, if◌then◌else◌, ne_eqb, append-nil, length-take}
use Rattle.std.specs.List.{slice_range}
use Rattle.std.proofs.lemmas.List.{drop_all, take-append-le}
use Rattle.input_source.specs.Bytes.{backslash, newline}
use Rattle.tbl_format.specs.Format.{has_some}
use Rattle.tbl_format.specs.Parts.{IsFront}
use Rattle.tbl_format.specs.FormatRows.{KeptFormat}
use Rattle.tbl_kept.specs.Joined.{RiseWithin, unjoined}
use Rattle.tbl_kept.specs.Rows.{KeptRows}
use Rattle.tbl_kept.specs.TableText.{KeptText, block_of}
use Rattle.tbl_kept.specs.declared.table_text.Joint.{Joint as JointAt}
use Rattle.tbl_layout.specs.declared.bars.Bars.{Bars}
use Rattle.tbl_giving.specs.Giving.{CanFollowBy, CanGive, IsLast, KeptGiving, LinesStart, coming, following, following_by, last_piece, lines_laid, lines_left_by, with_newline}
use Rattle.tbl_pieces.specs.PieceQueue.{KeptPieces, bytes_left}
use Rattle.tbl_giving.specs.Frame.{before_lines, behind_lines, picture}
use Rattle.tbl_pieces.specs.Pieces.{AreWithin, bytes_of, bytes_of_all, piece_len, some_piece}
use Rattle.tbl_giving.specs.declared.giving.Rest.{Rest}
use Rattle.tbl_giving.specs.declared.giving.Rest.TheVariants.{Lines, Nothing, Read}
use Rattle.tbl_pieces.specs.declared.pieces.Piece.{Piece}
use Rattle.tbl_pieces.specs.declared.pieces.Piece.TheVariants.{Block, Frame, Joint}
use Rattle.tbl_pieces.proofs.PieceBytes.{part-none, some_by}
use Rattle.tbl_format.proofs.Parts.{length-slice_range, slice_range-rest}
use Rattle.tbl_pieces.proofs.PiecesWithin.{AreWithin-append, AreWithin-some}

-- bytes in front of others, behind which a newline stands or none
pub newline-append : (is : Bool) (xs ys : List ℕ) → xs ++ with_newline is ys ≡ with_newline is (xs ++ ys)
newline-append false xs ys = refl
newline-append true xs ys = sym (append_assoc xs ys (newline ∷ []))

-- where a piece is left, anything may follow
pub IsLast-some : (pieces : List Piece) (rest : Rest) → has_some pieces ≡ true → IsLast pieces rest
IsLast-some [] rest some = absurd (cc)
IsLast-some (piece ∷ pieces) rest some = tt

-- and where there are some
pub IsLast-long : (pieces : List Piece) (rest : Rest) → 0 < length pieces → IsLast pieces rest
IsLast-long [] rest some = absurd (omega (arith, some))
IsLast-long (piece ∷ pieces) rest some = tt

-- where any byte is to come, a piece is left
pub some_coming : (t : KeptText) (r : KeptRows) (k : KeptFormat) (g : KeptGiving) (pieces : List Piece) → g.pieces.pieces ≡ pieces
    → IsLast pieces g.rest → 1 ≤ length (coming t r k g) → has_some pieces ≡ true
some_coming t r k g [] is last some =
    let block = block_of t in
    let behind : List ℕ = drop g.frame_end g.frame in
    let left : bytes_left block g.frame g.pieces ≡ [] =
    ap (λ (ps : List Piece). drop g.pieces.offset (bytes_of_all block g.frame ps)) is ∙ drop_all g.pieces.offset [] (omega arith) in
    let none : coming t r k g ≡ [] =
    ap (λ (bytes : List ℕ). bytes ++ following t r k g) left ∙ ap (λ (rest : Rest). following t r k (record g { rest = rest })) last in
    let few = ap (λ (bytes : List ℕ). length bytes) none in
    absurd (omega (arith, few, some))
some_coming t r k g (piece ∷ pieces) is last some = refl

module _ (block frame : List ℕ) where
  -- the bytes of parts in front of other pieces
  pub block-bytes : (from to : ℕ) (rest : List Piece)
      → bytes_of_all block frame (some_piece (Block from to) ++ rest) ≡ slice_range block from to ++ bytes_of_all block frame rest
  block-bytes from to rest = some_by block frame (to - from == 0) (Block from to) rest (part-none block frame (to - from) (drop from block))

  pub frame-bytes : (from to : ℕ) (rest : List Piece)
      → bytes_of_all block frame (some_piece (Frame from to) ++ rest) ≡ slice_range frame from to ++ bytes_of_all block frame rest
  frame-bytes from to rest = some_by block frame (to - from == 0) (Frame from to) rest (part-none block frame (to - from) (drop from frame))

  pub frame-alone : (from to : ℕ) → bytes_of_all block frame (some_piece (Frame from to)) ≡ slice_range frame from to
  frame-alone from to =
      ap (bytes_of_all block frame) (sym (append-nil (some_piece (Frame from to))))
      ∙ frame-bytes from to [] ∙ append-nil (slice_range frame from to)

  pub block-within : (from to : ℕ) → to ≤ length block → AreWithin block frame (some_piece (Block from to))
  block-within from to within = AreWithin-some block frame (Block from to) (length-slice_range block from to within)

  pub frame-within : (from to : ℕ) → to ≤ length frame → AreWithin block frame (some_piece (Frame from to))
  frame-within from to within = AreWithin-some block frame (Frame from to) (length-slice_range frame from to within)

-- the piece that is given at last
pub last-bytes : (block frame : List ℕ) (is : Bool) (bytes : List ℕ)
    → bytes ++ bytes_of_all block frame (some_piece (last_piece is)) ≡ with_newline is bytes
last-bytes block frame false bytes = append-nil bytes
last-bytes block frame true bytes = refl

pub newline-last : (block frame : List ℕ) (is : Bool) (bytes : List ℕ) → bytes ++ bytes_of block frame (last_piece is) ≡ with_newline is bytes
newline-last block frame false bytes = append-nil bytes
newline-last block frame true bytes = refl

pub last-len : (block frame : List ℕ) (is : Bool) → length (bytes_of block frame (last_piece is)) ≡ piece_len (last_piece is)
last-len block frame false = refl
last-len block frame true = refl

pub last-within : (block frame : List ℕ) (is : Bool) → AreWithin block frame (some_piece (last_piece is))
last-within block frame false = tt
last-within block frame true = (refl, tt)

-- where nothing follows, any pieces may be left; and where one is behind others, anything may follow
pub IsLast-nothing : (pieces : List Piece) → IsLast pieces Nothing
IsLast-nothing [] = refl
IsLast-nothing (piece ∷ pieces) = tt

IsLast-behind : (pieces : List Piece) (piece : Piece) (rest : Rest) → IsLast (pieces ++ piece ∷ []) rest
IsLast-behind [] piece rest = tt
IsLast-behind (first ∷ pieces) piece rest = tt

-- joints lie within the block
RiseWithin-first : (len from : ℕ) (joints : List JointAt) → RiseWithin len from joints → from ≤ len
RiseWithin-first len from [] rise = rise
RiseWithin-first len from (j ∷ joints) rise = omega (arith, rise.0, RiseWithin-first len j.place joints rise.1)

-- these pieces are left, of which nothing was given, and this follows them
abbrev pub giving_of : List Piece → KeptGiving → Rest → KeptGiving
giving_of pieces g rest = record g {
  pieces = record { pieces = pieces; offset = 0; room = g.pieces.room; taken = length pieces };
  rest = rest;
}

module _ (t : KeptText) (r : KeptRows) (k : KeptFormat) (g : KeptGiving) where
  -- the bytes that were read, up to a joint and with it
  pub coming-joint : (from joint : ℕ) (j : JointAt) → drop joint t.joints ≡ j ∷ drop (joint + 1) t.joints
      → coming t r k (giving_of (some_piece (Block from j.place) ++ some_piece Joint) g (Read j.place (joint + 1)))
      ≡ with_newline g.has_newline (unjoined from (block_of t) (drop joint t.joints))
  coming-joint from joint j is =
      let block = block_of t in
      let later = unjoined j.place block (drop (joint + 1) t.joints) in
      let bytes = bytes_of_all block g.frame (some_piece (Block from j.place) ++ some_piece Joint) in
      newline-append g.has_newline bytes later
      ∙ ap (with_newline g.has_newline)
      (ap (λ (front : List ℕ). front ++ later) (block-bytes block g.frame from j.place (some_piece Joint))
      ∙ append_assoc (slice_range block from j.place) (backslash ∷ newline ∷ []) later
      ∙ ap (unjoined from block) (sym is))

  pub CanGive-joint : (from joint : ℕ) (j : JointAt) → drop joint t.joints ≡ j ∷ drop (joint + 1) t.joints
      → RiseWithin (length (block_of t)) from (drop joint t.joints)
      → CanGive t r k (giving_of (some_piece (Block from j.place) ++ some_piece Joint) g (Read j.place (joint + 1)))
  CanGive-joint from joint j is rise =
      let block = block_of t in
      let here : RiseWithin (length block) from (j ∷ drop (joint + 1) t.joints) = subst (RiseWithin (length block) from) is rise in
      let within = RiseWithin-first (length block) j.place (drop (joint + 1) t.joints) here.1 in
      record {
        within = AreWithin-append block g.frame (some_piece (Block from j.place)) (Joint ∷ []) (block-within block g.frame from j.place within) (refl, tt);
        rest = here.1;
        last = IsLast-behind (some_piece (Block from j.place)) Joint (Read j.place (joint + 1));
      }

  -- and behind the last joint
  pub coming-last : (from joint to : ℕ) → to ≡ length (block_of t) → drop joint t.joints ≡ []
      → coming t r k (giving_of (some_piece (Block from to) ++ some_piece (last_piece g.has_newline)) g Nothing)
      ≡ with_newline g.has_newline (unjoined from (block_of t) (drop joint t.joints))
  coming-last from joint to to_is none =
      let block = block_of t in
      append-nil (bytes_of_all block g.frame (some_piece (Block from to) ++ some_piece (last_piece g.has_newline)))
      ∙ block-bytes block g.frame from to (some_piece (last_piece g.has_newline))
      ∙ last-bytes block g.frame g.has_newline (slice_range block from to)
      ∙ ap (with_newline g.has_newline)
      (ap (λ (n : ℕ). slice_range block from n) to_is ∙ slice_range-rest block from ∙ ap (unjoined from block) (sym none))

  pub CanGive-last : (from to : ℕ) → to ≡ length (block_of t)
      → CanGive t r k (giving_of (some_piece (Block from to) ++ some_piece (last_piece g.has_newline)) g Nothing)
  CanGive-last from to to_is = record {
    within =
        AreWithin-append (block_of t) g.frame (some_piece (Block from to)) (some_piece (last_piece g.has_newline))
        (block-within (block_of t) g.frame from to (omega (arith, to_is))) (last-within (block_of t) g.frame g.has_newline);
    rest = tt;
    last = IsLast-nothing (some_piece (Block from to) ++ some_piece (last_piece g.has_newline));
  }

  -- the picture
  module _ (indent : ℕ) (bars : Bars) (width : ℕ) (front : take g.frame_end g.frame ≡ before_lines indent) (behind : drop g.frame_end g.frame ≡ behind_lines indent) where
    picture-bytes : lines_left_by g.is_tall t r k g.walk g.lines ≡ lines_laid bars width t r k
        → bytes_of_all (block_of t) g.frame (some_piece (Frame 0 g.frame_end)) ++ (lines_left_by g.is_tall t r k g.walk g.lines ++ (drop g.frame_end g.frame ++ t.line))
        ≡ picture indent (lines_laid bars width t r k) ++ t.line
    picture-bytes walk =
        let lines = lines_laid bars width t r k in
        let whole : g.frame_end - 0 ≡ g.frame_end = omega arith in
        ap (λ (bytes : List ℕ). bytes ++ (lines_left_by g.is_tall t r k g.walk g.lines ++ (drop g.frame_end g.frame ++ t.line)))
        (frame-alone (block_of t) g.frame 0 g.frame_end ∙ ap (λ (n : ℕ). take n g.frame) whole ∙ front)
        ∙ ap (λ (bytes : List ℕ). before_lines indent ++ (bytes ++ (drop g.frame_end g.frame ++ t.line))) walk
        ∙ ap (λ (bytes : List ℕ). before_lines indent ++ (lines ++ (bytes ++ t.line))) behind
        ∙ ap (λ (bytes : List ℕ). before_lines indent ++ bytes) (sym (append_assoc lines (behind_lines indent) t.line))
        ∙ sym (append_assoc (before_lines indent) (lines ++ behind_lines indent) t.line)

    pub coming-picture : lines_left_by g.is_tall t r k g.walk g.lines ≡ lines_laid bars width t r k
        → coming t r k (giving_of (some_piece (Frame 0 g.frame_end)) g Lines)
        ≡ with_newline g.has_newline (picture indent (lines_laid bars width t r k) ++ t.line)
    coming-picture walk =
        newline-append g.has_newline (bytes_of_all (block_of t) g.frame (some_piece (Frame 0 g.frame_end))) (lines_left_by g.is_tall t r k g.walk g.lines ++ (drop g.frame_end g.frame ++ t.line))
        ∙ ap (with_newline g.has_newline) (picture-bytes walk)

-- what stands behind the lines of the picture: the requests behind it, and the line begun
pub ending : (block frame line : List ℕ) (start to all end : ℕ) → to ≡ length block → all ≡ length frame → drop start block ≡ line
    → slice_range frame end all ++ slice_range block start to ≡ drop end frame ++ line
ending block frame line start to all end to_is all_is is =
    ap (λ (n : ℕ). slice_range frame end n ++ slice_range block start to) all_is
    ∙ ap (λ (n : ℕ). slice_range frame end (length frame) ++ slice_range block start n) to_is
    ∙ ap (λ (bytes : List ℕ). bytes ++ slice_range block start (length block)) (slice_range-rest frame end)
    ∙ ap (λ (bytes : List ℕ). drop end frame ++ bytes) (slice_range-rest block start ∙ is)

-- what is a front stays one with more behind
pub front-more : (front xs ys : List ℕ) → IsFront front xs → IsFront front (xs ++ ys)
front-more front xs ys is =
    let few : length front ≤ length xs = omega (arith, ap (λ (bytes : List ℕ). length bytes) is, length-take (length front) xs) in
    take-append-le (length front) xs ys few ∙ is

-- where lines follow
pub following-lines : (t : KeptText) (r : KeptRows) (k : KeptFormat) (g : KeptGiving) → g.rest ≡ Lines
    → following t r k g ≡ with_newline g.has_newline (lines_left_by g.is_tall t r k g.walk g.lines ++ (drop g.frame_end g.frame ++ t.line))
following-lines t r k g is = ap (λ (rest : Rest). following t r k (record g { rest = rest })) is

-- and where they were given, what stands behind them
pub following-behind : (t : KeptText) (r : KeptRows) (k : KeptFormat) {given now : KeptGiving} {is has : Bool} {frame lines : List ℕ} {end : ℕ}
    → given ≡ now → now.rest ≡ Lines → now.is_tall ≡ is → has ≡ given.has_newline → frame ≡ given.frame → end ≡ given.frame_end
    → lines ≡ lines_left_by is t r k given.walk given.lines → lines ++ with_newline has (drop end frame ++ t.line) ≡ following t r k now
following-behind t r k {given} {now} {is} {has} {frame} {lines} {end} view rest tall newline_is frame_is end_is lines_are =
    let own = given.has_newline in
    let left = λ (b : Bool). lines_left_by b t r k given.walk given.lines in
    subst (λ (g : KeptGiving). lines ++ with_newline has (drop end frame ++ t.line) ≡ following t r k g) view
    (newline-append has lines (drop end frame ++ t.line)
    ∙ ap (λ (b : Bool). with_newline b (lines ++ (drop end frame ++ t.line))) newline_is
    ∙ ap (λ (bytes : List ℕ). with_newline own (bytes ++ (drop end frame ++ t.line))) (lines_are ∙ ap left (sym (ap (λ (g : KeptGiving). g.is_tall) view ∙ tall)))
    ∙ ap (λ (n : ℕ). with_newline own (left given.is_tall ++ (drop n frame ++ t.line))) end_is
    ∙ ap (λ (bytes : List ℕ). with_newline own (left given.is_tall ++ (drop given.frame_end bytes ++ t.line))) frame_is
    ∙ sym (following-lines t r k given (ap (λ (g : KeptGiving). g.rest) view ∙ rest)))

-- a piece that has a byte is one
long-by : (t : Bool) (piece : Piece) → t ≡ false → 0 < length (if t then [] else piece ∷ [])
long-by true piece is = absurd (cc)
long-by false piece is = omega arith

pub some-long : (piece : Piece) → 0 < piece_len piece → 0 < length (some_piece piece)
some-long piece some = long-by (piece_len piece == 0) piece (ne_eqb (piece_len piece) 0 (λ is. omega (arith, some, is)))

-- the picture begins, with the requests in front of it
module _ (t : KeptText) (r : KeptRows) (k : KeptFormat) (bars : Bars) (width : ℕ) (old new : KeptGiving) (starts : LinesStart bars width t r k old new)
    (pieces : KeptPieces) (pieces_are : old.pieces ≡ pieces) (rest : old.rest ≡ Lines) where
  pub started-coming : coming t r k new ≡ bytes_left (block_of t) old.frame pieces
      ++ with_newline old.has_newline (lines_left_by new.is_tall t r k new.walk new.lines ++ (drop old.frame_end old.frame ++ t.line))
  started-coming =
      let block = block_of t in
      let lines = lines_left_by new.is_tall t r k new.walk new.lines in
      ap (λ (q : KeptPieces). bytes_left block new.frame q ++ following t r k new) (starts.pieces ∙ pieces_are)
      ∙ ap (λ (frame : List ℕ). bytes_left block frame pieces ++ following_by new.rest new.has_newline t r k lines (drop new.frame_end frame)) starts.frame
      ∙ ap (λ (end : ℕ). bytes_left block old.frame pieces ++ following_by new.rest new.has_newline t r k lines (drop end old.frame)) starts.frame_end
      ∙ ap (λ (is : Bool). bytes_left block old.frame pieces ++ following_by new.rest is t r k lines (drop old.frame_end old.frame)) starts.newline
      ∙ ap (λ (what : Rest). bytes_left block old.frame pieces ++ following_by what old.has_newline t r k lines (drop old.frame_end old.frame)) (starts.rest ∙ rest)

  pub started-can : length (block_of t) < 2 ^ 33 → AreWithin (block_of t) old.frame pieces.pieces → 0 < length pieces.pieces → CanGive t r k new
  started-can small within some =
      let block = block_of t in
      let all : new.pieces ≡ pieces = starts.pieces ∙ pieces_are in
      record {
        within = subst (λ (q : KeptPieces). AreWithin block new.frame q.pieces) (sym all)
            (subst (λ (frame : List ℕ). AreWithin block frame pieces.pieces) (sym starts.frame) within);
        rest = subst (λ (what : Rest). CanFollowBy what new.is_tall t r k new.walk new.lines) (sym (starts.rest ∙ rest))
            (record { can = starts.can; small = small });
        last = subst (λ (q : KeptPieces). IsLast q.pieces new.rest) (sym all) (IsLast-long pieces.pieces new.rest some);
      }
