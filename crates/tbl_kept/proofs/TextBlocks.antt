-- The block of a table with its joints, and what was read of it.
use Rattle.std.proofs.Common.{◌≡◌, ℕ, zero, suc, ◌+◌, ◌-◌, ◌*◌, ◌<◌, ◌≤◌, true, List, [], ◌∷◌, ◌++◌, length, take, drop, Option, Some, None, refl, sym, ap, subst, ◌∙◌, arith, append_assoc, append-nil, length-append, length-drop, ◌==◌, is_some, nat_lt, slice_get, eqb-true, length-take-le, take-append-drop, take_all}
use Rattle.std.specs.List.{slice_range}
use Rattle.std.proofs.lemmas.Bool.Decides.{nat_tests}
use Rattle.std.proofs.lemmas.List.{drop-append-le, drop_all, take-append-le}
use Rattle.input_source.specs.Bytes.{newline, backslash}
use Rattle.tbl_kept.specs.Joined.{Joined, RiseWithin, behind_joined, ends_joined, goes_on, unjoined}
use Rattle.tbl_kept.specs.TableText.{KeptText, Lies, ends_of, pending_of, text_closed, text_joined, text_of_block, text_whole}
use Rattle.tbl_kept.specs.declared.table_text.Joint.{Joint}
use Rattle.tbl_format.proofs.Parts.{length-slice_range, slice_range-append, slice_range-rest}

-- joints that rise
pub RiseWithin-first : (len from : ℕ) (joints : List Joint) → RiseWithin len from joints → from ≤ len
RiseWithin-first len from [] rise = rise
RiseWithin-first len from (j ∷ joints) rise = omega (arith, rise.0, RiseWithin-first len j.place joints rise.1)

pub RiseWithin-more : (len more from : ℕ) (joints : List Joint) → len ≤ more → RiseWithin len from joints → RiseWithin more from joints
RiseWithin-more len more from [] le rise = omega (arith, le, rise)
RiseWithin-more len more from (j ∷ joints) le rise = (rise.0, RiseWithin-more len more j.place joints le rise.1)

pub RiseWithin-append : (len from : ℕ) (joints : List Joint) (joint : Joint) → joint.place ≡ len → RiseWithin len from joints
    → RiseWithin len from (joints ++ joint ∷ [])
RiseWithin-append len from [] joint is rise = (omega (arith, is, rise), omega (arith, is))
RiseWithin-append len from (j ∷ joints) joint is rise = (rise.0, RiseWithin-append len j.place joints joint is rise.1)

-- bytes behind a block stand behind what was read of it
pub unjoined-more : (from : ℕ) (block more : List ℕ) (joints : List Joint) → RiseWithin (length block) from joints
    → unjoined from (block ++ more) joints ≡ unjoined from block joints ++ more
unjoined-more from block more [] rise = drop-append-le from block more rise
unjoined-more from block more (j ∷ joints) rise =
    let within = RiseWithin-first (length block) j.place joints rise.1 in
    ap (λ (front : List ℕ). front ++ (backslash ∷ newline ∷ unjoined j.place (block ++ more) joints)) (slice_range-append block more from j.place rise.0 within)
    ∙ ap (λ (rest : List ℕ). slice_range block from j.place ++ (backslash ∷ newline ∷ rest)) (unjoined-more j.place block more joints rise.1)
    ∙ sym (append_assoc (slice_range block from j.place) (backslash ∷ newline ∷ unjoined j.place block joints) more)

-- a joint at a block's end
pub unjoined-joint : (from : ℕ) (block : List ℕ) (joints : List Joint) (joint : Joint) → joint.place ≡ length block
    → unjoined from block (joints ++ joint ∷ []) ≡ unjoined from block joints ++ (backslash ∷ newline ∷ [])
unjoined-joint from block [] joint is =
    ap (λ (place : ℕ). slice_range block from place ++ (backslash ∷ newline ∷ drop place block)) is
    ∙ ap (λ (front : List ℕ). front ++ (backslash ∷ newline ∷ drop (length block) block)) (slice_range-rest block from)
    ∙ ap (λ (rest : List ℕ). drop from block ++ (backslash ∷ newline ∷ rest)) (drop_all (length block) block (omega arith))
unjoined-joint from block (j ∷ joints) joint is =
    ap (λ (rest : List ℕ). slice_range block from j.place ++ (backslash ∷ newline ∷ rest)) (unjoined-joint j.place block joints joint is)
    ∙ sym (append_assoc (slice_range block from j.place) (backslash ∷ newline ∷ unjoined j.place block joints) (backslash ∷ newline ∷ []))

-- what was read has two bytes more for each joint
pub length-unjoined : (from : ℕ) (block : List ℕ) (joints : List Joint) → RiseWithin (length block) from joints
    → length (unjoined from block joints) + from ≡ length block + 2 * length joints
length-unjoined from block [] rise = omega (arith, length-drop from block, rise)
length-unjoined from block (j ∷ joints) rise =
    omega (
      arith,
      rise.0,
      length-append (slice_range block from j.place) (backslash ∷ newline ∷ unjoined j.place block joints),
      length-slice_range block from j.place (RiseWithin-first (length block) j.place joints rise.1),
      length-unjoined j.place block joints rise.1,
    )

-- the line that goes on, by its joints
pub ends_of-append : (start : ℕ) (joints : List Joint) (joint : Joint)
    → ends_of start (joints ++ joint ∷ []) ≡ ends_of start joints ++ (joint.place - start, joint.line) ∷ []
ends_of-append start [] joint = refl
ends_of-append start (j ∷ joints) joint = ap (λ (ends : List (ℕ × ℕ)). (j.place - start, j.line) ∷ ends) (ends_of-append start joints joint)

pub ends-pending : (start : ℕ) (bytes : List ℕ) (joints : List Joint) → ends_joined (pending_of start bytes joints) ≡ ends_of start joints
ends-pending start bytes [] = refl
ends-pending start bytes (j ∷ joints) = refl

pending-append : (start : ℕ) (bytes : List ℕ) (joints : List Joint) (joint : Joint)
    → pending_of start bytes (joints ++ joint ∷ []) ≡ Some (record { bytes = bytes; ends = ends_of start (joints ++ joint ∷ []) })
pending-append start bytes [] joint = refl
pending-append start bytes (j ∷ joints) joint = refl

behind-by : (start line_start : ℕ) (bytes line all : List ℕ) (joints : List Joint) → bytes ++ line ≡ all
    → (length joints ≤ 0 → line ≡ all) → behind_joined (pending_of start bytes joints) line ≡ all
behind-by start line_start bytes line all [] split alone = alone (omega arith)
behind-by start line_start bytes line all (j ∷ joints) split alone = split

slice-then-drop : (block : List ℕ) (from at : ℕ) → from ≤ at → slice_range block from at ++ drop at block ≡ drop from block
slice-then-drop [] from at le =
    let none : List ℕ = [] in
    ap (λ (xs : List ℕ). take (at - from) xs ++ drop at none) (drop_all from none (omega arith))
    ∙ ap (λ (xs : List ℕ). xs ++ drop at none) (take_all (at - from) none (omega arith))
    ∙ drop_all at none (omega arith)
    ∙ sym (drop_all from none (omega arith))
slice-then-drop (b ∷ block) zero at le =
    let same : at - 0 ≡ at = omega arith in
    ap (λ (n : ℕ). take n (b ∷ block) ++ drop at (b ∷ block)) same ∙ take-append-drop at (b ∷ block)
slice-then-drop (b ∷ block) (suc from) zero le = absurd (omega (arith, le))
slice-then-drop (b ∷ block) (suc from) (suc at) le =
    let same : suc at - suc from ≡ at - from = omega arith in
    ap (λ (n : ℕ). take n (drop from block) ++ drop at block) same ∙ slice-then-drop block from at (omega (arith, le))

take-then-slice : (block : List ℕ) (from at : ℕ) → from ≤ at → take from block ++ slice_range block from at ≡ take at block
take-then-slice [] from at le =
    let none : List ℕ = [] in
    ap (λ (xs : List ℕ). xs ++ take (at - from) (drop from none)) (take_all from none (omega arith))
    ∙ ap (λ (xs : List ℕ). take (at - from) xs) (drop_all from none (omega arith))
    ∙ take_all (at - from) none (omega arith)
    ∙ sym (take_all at none (omega arith))
take-then-slice (b ∷ block) zero at le = let same : at - 0 ≡ at = omega arith in ap (λ (n : ℕ). take n (b ∷ block)) same
take-then-slice (b ∷ block) (suc from) zero le = absurd (omega (arith, le))
take-then-slice (b ∷ block) (suc from) (suc at) le =
    let same : suc at - suc from ≡ at - from = omega arith in
    ap (λ (n : ℕ). b ∷ (take from block ++ take n (drop from block))) same
    ∙ ap (λ (rest : List ℕ). b ∷ rest) (take-then-slice block from at (omega (arith, le)))

-- the fields of a text, one after another
kept : ℕ → List Joint → List ℕ → Option Joined → List ℕ → List ℕ → KeptText
kept room joints settled pending line read = record {
  text_room = room;
  settled = settled;
  pending = pending;
  line = line;
  joints = joints;
  read = read;
}

module _ (room : ℕ) (joints : List Joint) where
  same : (settled settled' line line' read read' : List ℕ) (pending pending' : Option Joined) → settled ≡ settled' → pending ≡ pending' → line ≡ line'
      → read ≡ read' → kept room joints settled pending line read ≡ kept room joints settled' pending' line' read'
  same settled settled' line line' read read' pending pending' s p l r =
      ap (λ (x : List ℕ). kept room joints x pending line read) s
      ∙ ap (λ (x : Option Joined). kept room joints settled' x line read) p
      ∙ ap (λ (x : List ℕ). kept room joints settled' pending' x read) l
      ∙ ap (λ (x : List ℕ). kept room joints settled' pending' line' x) r

module _ (block : List ℕ) (joints : List Joint) (line_start open_start open_joints : ℕ) (lies : Lies block joints line_start open_start open_joints) where
  alone : length (drop open_joints joints) ≤ 0 → open_start ≡ line_start
  alone none = lies.alone (omega (arith, none, length-drop open_joints joints))

  -- the line begun, behind those that are joined to it
  pub joined-is : behind_joined (pending_of open_start (slice_range block open_start line_start) (drop open_joints joints)) (drop line_start block) ≡ drop open_start block
  joined-is =
      behind-by open_start line_start (slice_range block open_start line_start) (drop line_start block) (drop open_start block) (drop open_joints joints)
      (slice-then-drop block open_start line_start lies.order) (λ none. ap (λ (n : ℕ). drop n block) (sym (alone none)))

  pub block-is : take open_start block ++ behind_joined (pending_of open_start (slice_range block open_start line_start) (drop open_joints joints)) (drop line_start block) ≡ block
  block-is = ap (λ (rest : List ℕ). take open_start block ++ rest) joined-is ∙ take-append-drop open_start block

  -- the line that goes on alone
  pub open-is : behind_joined (pending_of open_start (slice_range block open_start line_start) (drop open_joints joints)) [] ≡ slice_range block open_start line_start
  open-is =
      behind-by open_start line_start (slice_range block open_start line_start) [] (slice_range block open_start line_start) (drop open_joints joints)
      (append-nil (slice_range block open_start line_start))
      (λ none. let same : line_start - open_start ≡ 0 = omega (arith, alone none) in ap (λ (n : ℕ). take n (drop open_start block)) (sym same))

  pub closed-is : take open_start block ++ behind_joined (pending_of open_start (slice_range block open_start line_start) (drop open_joints joints)) [] ≡ take line_start block
  closed-is = ap (λ (rest : List ℕ). take open_start block ++ rest) open-is ∙ take-then-slice block open_start line_start lies.order

  rise-line : RiseWithin (length (take line_start block)) 0 joints
  rise-line = subst (λ (n : ℕ). RiseWithin n 0 joints) (sym (length-take-le line_start block lies.line)) lies.rise

  -- all that was read
  pub read-is : unjoined 0 (take line_start block) joints ++ drop line_start block ≡ unjoined 0 block joints
  read-is =
      sym (unjoined-more 0 (take line_start block) (drop line_start block) joints rise-line)
      ∙ ap (λ (b : List ℕ). unjoined 0 b joints) (take-append-drop line_start block)

  pub rise-all : RiseWithin (length block) 0 joints
  rise-all = RiseWithin-more line_start (length block) 0 joints lies.line lies.rise

  pub length-read : length (unjoined 0 (take line_start block) joints ++ drop line_start block) ≡ length block + 2 * length joints
  length-read = ap (λ (xs : List ℕ). length xs) read-is ∙ omega (arith, length-unjoined 0 block joints rise-all)

  -- more bytes of the line begun
  module _ (room : ℕ) (more : List ℕ) where
    pub text-push : text_of_block room (block ++ more) joints line_start open_start open_joints
        ≡ record (text_of_block room block joints line_start open_start open_joints) { line = drop line_start block ++ more }
    unfolding kept
    text-push =
        let js = drop open_joints joints in
        let start : open_start ≤ length block = omega (arith, lies.order, lies.line) in
        same room joints _ _ _ _ _ _ _ _
        (take-append-le open_start block more start)
        (ap (λ (bytes : List ℕ). pending_of open_start bytes js) (slice_range-append block more open_start line_start lies.order lies.line))
        (drop-append-le line_start block more lies.line)
        (ap (λ (bytes : List ℕ). unjoined 0 bytes joints) (take-append-le line_start block more lies.line))

  pub Lies-push : (more : List ℕ) → Lies (block ++ more) joints line_start open_start open_joints
  Lies-push more = record {
    line = omega (arith, lies.line, length-append block more);
    order = lies.order;
    rise = lies.rise;
    alone = lies.alone;
    count = lies.count;
  }

  -- all of it is done, with bytes behind it
  module _ (room : ℕ) (more all : List ℕ) (n : ℕ) (all_is : all ≡ block ++ more) (n_is : n ≡ length all) where
    none-left : drop n all ≡ []
    none-left = drop_all n all (omega (arith, n_is))

    all-taken : take n all ≡ all
    all-taken = take_all n all (omega (arith, n_is))

    pub Lies-done : Lies all joints n n (length joints)
    Lies-done = record {
      line = omega (arith, n_is);
      order = omega arith;
      rise = RiseWithin-more (length block) n 0 joints (omega (arith, n_is, ap (λ (xs : List ℕ). length xs) all_is, length-append block more)) rise-all;
      alone = λ few. refl;
      count = omega arith;
    }

    pub text-done : text_of_block room all joints n n (length joints) ≡ record {
      text_room = room;
      settled = take open_start block ++ (behind_joined (pending_of open_start (slice_range block open_start line_start) (drop open_joints joints)) (drop line_start block) ++ more);
      pending = None;
      line = [];
      joints = joints;
      read = unjoined 0 (take line_start block) joints ++ drop line_start block ++ more;
    }
    unfolding kept
    text-done =
        let whole = behind_joined (pending_of open_start (slice_range block open_start line_start) (drop open_joints joints)) (drop line_start block) in
        same room joints _ _ _ _ _ _ _ _
        (all-taken ∙ all_is ∙ ap (λ (xs : List ℕ). xs ++ more) (sym block-is) ∙ append_assoc (take open_start block) whole more)
        (ap (λ (js : List Joint). pending_of n (slice_range all n n) js) (drop_all (length joints) joints (omega arith)))
        none-left
        (ap (λ (bytes : List ℕ). unjoined 0 bytes joints) (all-taken ∙ all_is)
        ∙ unjoined-more 0 block more joints rise-all
        ∙ ap (λ (xs : List ℕ). xs ++ more) (sym read-is))

  -- the line that goes on is done
  pub Lies-closed : Lies block joints line_start line_start (length joints)
  Lies-closed = record {
    line = lies.line;
    order = omega arith;
    rise = lies.rise;
    alone = λ few. refl;
    count = omega arith;
  }

  pub text-close : (room : ℕ) → text_of_block room block joints line_start line_start (length joints)
      ≡ text_closed (text_of_block room block joints line_start open_start open_joints)
  unfolding kept
  text-close room =
      same room joints _ _ _ _ _ _ _ _
      (sym closed-is)
      (ap (λ (js : List Joint). pending_of line_start (slice_range block line_start line_start) js) (drop_all (length joints) joints (omega arith)))
      refl
      refl

  -- all of it is of complete lines
  pub text-complete : (room : ℕ) → text_of_block room block joints (length block) (length block) (length joints)
      ≡ text_whole (text_of_block room block joints line_start open_start open_joints)
  unfolding kept
  text-complete room =
      same room joints _ _ _ _ _ _ _ _
      (take_all (length block) block (omega arith) ∙ sym block-is)
      (ap (λ (js : List Joint). pending_of (length block) (slice_range block (length block) (length block)) js) (drop_all (length joints) joints (omega arith)))
      (drop_all (length block) block (omega arith))
      (ap (λ (bytes : List ℕ). unjoined 0 bytes joints) (take_all (length block) block (omega arith)) ∙ sym read-is)

  pub Lies-complete : Lies block joints (length block) (length block) (length joints)
  Lies-complete = record {
    line = omega arith;
    order = omega arith;
    rise = rise-all;
    alone = λ few. refl;
    count = omega arith;
  }

  -- it goes on in the next line
  module _ (room n : ℕ) (front : List ℕ) (split : block ≡ front ++ backslash ∷ []) (within : line_start ≤ length front) where
    js : List Joint
    js = drop open_joints joints

    abbrev joint : Joint
    joint = record { place = length front; line = n }

    pub Lies-join : Lies front (joints ++ joint ∷ []) (length front) open_start open_joints
    Lies-join = record {
      line = omega arith;
      order = omega (arith, within, lies.order);
      rise = RiseWithin-append (length front) 0 joints joint refl (RiseWithin-more line_start (length front) 0 joints within lies.rise);
      alone = λ few. absurd (omega (arith, few, lies.count, length-append joints (joint ∷ [])));
      count = omega (arith, lies.count, length-append joints (joint ∷ []));
    }

    abbrev before : Option Joined
    before = pending_of open_start (slice_range block open_start line_start) (drop open_joints joints)

    abbrev bytes : List ℕ
    bytes = behind_joined before (take (length (drop line_start block) - 1) (drop line_start block))

    line-is : take (length (drop line_start block) - 1) (drop line_start block) ≡ drop line_start front
    line-is =
        let parts : drop line_start block ≡ drop line_start front ++ backslash ∷ [] =
        ap (λ (xs : List ℕ). drop line_start xs) split ∙ drop-append-le line_start front (backslash ∷ []) within in
        let len : length (drop line_start front ++ backslash ∷ []) - 1 ≡ length (drop line_start front) =
        omega (arith, length-append (drop line_start front) (backslash ∷ [])) in
        ap (λ (xs : List ℕ). take (length xs - 1) xs) parts
        ∙ ap (λ (k : ℕ). take k (drop line_start front ++ backslash ∷ [])) len
        ∙ take-append-le (length (drop line_start front)) (drop line_start front) (backslash ∷ []) (omega arith)
        ∙ take_all (length (drop line_start front)) (drop line_start front) (omega arith)

    bytes-are : bytes ≡ drop open_start front
    bytes-are =
        ap (λ (xs : List ℕ). behind_joined before xs) line-is
        ∙ ap (λ (xs : List ℕ). behind_joined (pending_of open_start (slice_range xs open_start line_start) (drop open_joints joints)) (drop line_start front)) split
        ∙ ap (λ (xs : List ℕ). behind_joined (pending_of open_start xs (drop open_joints joints)) (drop line_start front))
        (slice_range-append front (backslash ∷ []) open_start line_start lies.order within)
        ∙ behind-by open_start line_start (slice_range front open_start line_start) (drop line_start front) (drop open_start front) (drop open_joints joints)
        (slice-then-drop front open_start line_start lies.order) (λ none. ap (λ (k : ℕ). drop k front) (sym (alone none)))

    place-is : length (take open_start block) + length bytes ≡ length front
    place-is =
        let start : length (take open_start block) ≡ open_start = length-take-le open_start block (omega (arith, lies.order, lies.line)) in
        omega (arith, start, ap (λ (xs : List ℕ). length xs) bytes-are, length-drop open_start front, within, lies.order)

    pending-join : pending_of open_start (slice_range front open_start (length front)) (drop open_joints (joints ++ joint ∷ []))
        ≡ Some (record { bytes = bytes; ends = ends_joined before ++ (length bytes, n) ∷ [] })
    pending-join =
        let some = λ (xs : List ℕ) (ends : List (ℕ × ℕ)). let o : Option Joined = Some (record { bytes = xs; ends = ends }) in o in
        let whole : slice_range front open_start (length front) ≡ bytes = slice_range-rest front open_start ∙ sym bytes-are in
        let end : length front - open_start ≡ length bytes = omega (arith, ap (λ (xs : List ℕ). length xs) bytes-are, length-drop open_start front) in
        ap (λ (xs : List Joint). pending_of open_start (slice_range front open_start (length front)) xs) (drop-append-le open_joints joints (joint ∷ []) lies.count)
        ∙ pending-append open_start (slice_range front open_start (length front)) (drop open_joints joints) joint
        ∙ ap (λ (xs : List ℕ). some xs (ends_of open_start (drop open_joints joints ++ joint ∷ []))) whole
        ∙ ap (λ (ends : List (ℕ × ℕ)). some bytes ends) (ends_of-append open_start (drop open_joints joints) joint)
        ∙ ap (λ (ends : List (ℕ × ℕ)). some bytes (ends ++ (length front - open_start, n) ∷ []))
        (sym (ends-pending open_start (slice_range block open_start line_start) (drop open_joints joints)))
        ∙ ap (λ (k : ℕ). some bytes (ends_joined before ++ (k, n) ∷ [])) end

    read-join : unjoined 0 (take (length front) front) (joints ++ joint ∷ []) ≡ unjoined 0 (take line_start block) joints ++ drop line_start block ++ newline ∷ []
    read-join =
        let rise : RiseWithin (length front) 0 joints = RiseWithin-more line_start (length front) 0 joints within lies.rise in
        ap (λ (xs : List ℕ). unjoined 0 xs (joints ++ joint ∷ [])) (take_all (length front) front (omega arith))
        ∙ unjoined-joint 0 front joints joint refl
        ∙ sym (append_assoc (unjoined 0 front joints) (backslash ∷ []) (newline ∷ []))
        ∙ ap (λ (xs : List ℕ). xs ++ newline ∷ []) (sym (unjoined-more 0 front (backslash ∷ []) joints rise))
        ∙ ap (λ (xs : List ℕ). unjoined 0 xs joints ++ newline ∷ []) (sym split)
        ∙ ap (λ (xs : List ℕ). xs ++ newline ∷ []) (sym read-is)

    pub text-join : text_of_block room front (joints ++ joint ∷ []) (length front) open_start open_joints
        ≡ text_joined n (text_of_block room block joints line_start open_start open_joints)
    unfolding kept
    text-join =
        let start : open_start ≤ length front = omega (arith, lies.order, within) in
        let fresh : KeptText = text_joined n (text_of_block room block joints line_start open_start open_joints) in
        same room (joints ++ joint ∷ []) _ _ _ _ _ _ _ _
        (sym (ap (λ (xs : List ℕ). take open_start xs) split ∙ take-append-le open_start front (backslash ∷ []) start))
        pending-join
        (drop_all (length front) front (omega arith))
        read-join
        ∙ ap (λ (place : ℕ). let k : KeptText = record fresh { joints = joints ++ record { place = place; line = n } ∷ [] } in k) (sym place-is)

-- a line that goes on ends in a backslash
goes_on-last : (line : List ℕ) → goes_on line ≡ true → take (length line - 1) line ++ backslash ∷ [] ≡ line
goes_on-last [] is = absurd (cc)
goes_on-last (b ∷ []) is = ap (λ (c : ℕ). c ∷ []) (sym (eqb-true b backslash is))
goes_on-last (b ∷ c ∷ line) is =
    let len : length (b ∷ c ∷ line) - 1 ≡ suc (length (c ∷ line) - 1) = omega arith in
    ap (λ (n : ℕ). take n (b ∷ c ∷ line) ++ backslash ∷ []) len ∙ ap (λ (xs : List ℕ). b ∷ xs) (goes_on-last (c ∷ line) is)

nothing-goes_on : (n : ℕ) → goes_on (drop n []) ≡ true → ⊥
nothing-goes_on zero is = absurd (cc)
nothing-goes_on (suc n) is = absurd (cc)

goes_on-drop : (n : ℕ) (line : List ℕ) → goes_on (drop n line) ≡ true → goes_on line ≡ true
goes_on-drop zero line is = is
goes_on-drop (suc n) [] is = is
goes_on-drop (suc n) (b ∷ []) is = absurd (nothing-goes_on n is)
goes_on-drop (suc n) (b ∷ c ∷ line) is = goes_on-drop n (c ∷ line) is

pub goes_on-some : (line : List ℕ) → goes_on line ≡ true → 0 < length line
goes_on-some [] is = absurd (cc)
goes_on-some (b ∷ line) is = omega arith

pub front-is : (n : ℕ) (block : List ℕ) → goes_on (drop n block) ≡ true → block ≡ take (length block - 1) block ++ backslash ∷ []
front-is n block is = sym (goes_on-last block (goes_on-drop n block is))

-- whether a line goes on
pub pending-some : (start : ℕ) (bytes : List ℕ) (open_joints : ℕ) (joints : List Joint)
    → nat_lt open_joints (length joints) ≡ is_some (pending_of start bytes (drop open_joints joints))
pending-some start bytes zero [] = refl
pending-some start bytes zero (j ∷ joints) = grind (arith, nat_tests)
pending-some start bytes (suc n) [] = grind (arith, nat_tests)
pending-some start bytes (suc n) (j ∷ joints) =
    let test : nat_lt (suc n) (length (j ∷ joints)) ≡ nat_lt n (length joints) = grind (arith, nat_tests) in
    test ∙ pending-some start bytes n joints

-- its last byte tells it
get-by : (b : ℕ) (line : List ℕ) (last : ℕ) → slice_get (b ∷ line) (length line) ≡ Some last → (last == backslash) ≡ goes_on (b ∷ line)
get-by b [] last is = let same : b ≡ last = cc in ap (λ (c : ℕ). c == backslash) (sym same)
get-by b (c ∷ line) last is = get-by c line last is

pub goes_on-get : (line : List ℕ) (last : ℕ) → slice_get line (length line - 1) ≡ Some last → (last == backslash) ≡ goes_on line
goes_on-get [] last is = absurd (cc)
goes_on-get (b ∷ line) last is =
    let n : length (b ∷ line) - 1 ≡ length line = omega arith in
    get-by b line last (ap (λ (at : ℕ). slice_get (b ∷ line) at) (sym n) ∙ is)
