-- The texts of what is half read, behind each other in one block.
use Rattle.std.proofs.Common.{◌≡◌, ℕ, Bool, true, false, suc, ◌+◌, ◌-◌, ◌<◌, ◌≤◌, List, [], ◌∷◌, ◌++◌, length, reverse, take, drop, Option, Some, refl, sym, ap, ap₂, subst, ◌∙◌, arith, rules, length-drop, length-append, length-take-le}
use Rattle.std.proofs.Math.Seq.{take-append_seam, take-length, drop-length}
use Rattle.std.specs.List.{slice_get, slice_index_or}
use Rattle.std.specs.Option.{MatchOption}
use Rattle.std.proofs.lemmas.List.{get_or-reverse, length-reverse, reverse-append, reverse-reverse, drop-append-le, drop_all, take-append-le}
use Rattle.input_escapes.specs.OpenEscape.{OpenEscape, Backslash as OpenBackslash, Comment as OpenComment, Name as OpenName, Size as OpenSize, Delimited, Width as OpenWidth, Condition, text_held, texts_held, unit_bytes}
use Rattle.input_escapes.specs.EscapeTexts.{AreJoined, BeginsBehind, IsOnTop, begun, holds_text, joined, text_on_top}
use Rattle.input_escapes.specs.declared.escapes.TextUse.{TextUse}
use Rattle.input_escapes.specs.declared.open_escape.ConditionPart.{ConditionPart}
use Rattle.input_escapes.specs.declared.open_escape.CopyUnit.{CopyUnit}
use Rattle.input_escapes.specs.declared.open_escape.HeldEscape.{HeldEscape}
use Rattle.input_escapes.specs.declared.open_escape.HeldEscape.TheVariants.{Backslash, Comment, Name, Size, Delimited as DelimitedRead, Width, Condition as ConditionRead}

-- there are as many as items
pub length-joined : (items : List HeldEscape) (block : List ℕ) → length (joined items block) ≡ length items
length-joined [] block = refl
length-joined (Backslash ∷ items) block = ap suc (length-joined items block)
length-joined (Comment ∷ items) block = ap suc (length-joined items block)
length-joined (Name purpose part ∷ items) block = ap suc (length-joined items block)
length-joined (Size part ∷ items) block = ap suc (length-joined items block)
length-joined (DelimitedRead purpose delimiter begin ∷ items) block = ap suc (length-joined items (take begin block))
length-joined (Width delimiter width is_deep ∷ items) block = ap suc (length-joined items block)
length-joined (ConditionRead part begin ∷ items) block = ap suc (length-joined items (take begin block))

-- they hold the bytes of the block
pub held-joined : (items : List HeldEscape) (block : List ℕ) → AreJoined items block → texts_held (joined items block) ≡ length block
held-joined [] block are = sym (ap length are)
held-joined (Backslash ∷ items) block are = held-joined items block are
held-joined (Comment ∷ items) block are = held-joined items block are
held-joined (Name purpose part ∷ items) block are = held-joined items block are
held-joined (Size part ∷ items) block are = held-joined items block are
held-joined (DelimitedRead purpose delimiter begin ∷ items) block are =
    omega (arith, are.0, held-joined items (take begin block) are.1, length-take-le begin block are.0, length-drop begin block)
held-joined (Width delimiter width is_deep ∷ items) block are = held-joined items block are
held-joined (ConditionRead part begin ∷ items) block are =
    omega (arith, are.0, held-joined items (take begin block) are.1, length-take-le begin block are.0, length-drop begin block)

-- a text begins where those below it end
begins-at : (begin : ℕ) (items : List HeldEscape) (block : List ℕ) → (begin ≤ length block) × AreJoined items (take begin block)
    → texts_held (joined items (take begin block)) ≡ begin
begins-at begin items block are = held-joined items (take begin block) are.1 ∙ length-take-le begin block are.0

-- the innermost stands on top
pub on_top : (item : HeldEscape) (items : List HeldEscape) (block : List ℕ) → AreJoined (item ∷ items) block → IsOnTop item (joined (item ∷ items) block)
on_top Backslash items block are = record { text = []; rest = joined items block; same = refl; begins = tt }
on_top Comment items block are = record { text = []; rest = joined items block; same = refl; begins = tt }
on_top (Name purpose part) items block are = record { text = []; rest = joined items block; same = refl; begins = tt }
on_top (Size part) items block are = record { text = []; rest = joined items block; same = refl; begins = tt }
on_top (DelimitedRead purpose delimiter begin) items block are =
    record {
      text = drop begin block;
      rest = joined items (take begin block);
      same = refl;
      begins = sym (begins-at begin items block are);
    }
on_top (Width delimiter width is_deep) items block are = record { text = []; rest = joined items block; same = refl; begins = tt }
on_top (ConditionRead part begin) items block are =
    record {
      text = drop begin block;
      rest = joined items (take begin block);
      same = refl;
      begins = sym (begins-at begin items block are);
    }

-- the last of a list
slice_get-append_length : (front : List HeldEscape) (item : HeldEscape)
    → slice_get (front ++ item ∷ []) (length front) ≡ Some item
slice_get-append_length [] item = refl
slice_get-append_length (x ∷ front) item = slice_get-append_length front item

pub slice_get-reverse : (items : List HeldEscape) (item : HeldEscape)
    → slice_get (reverse (item ∷ items)) (length (reverse (item ∷ items)) - 1) ≡ Some item
slice_get-reverse items item =
    let same : reverse (item ∷ items) ≡ reverse items ++ item ∷ [] = reverse-append (item ∷ []) items in
    ap (λ (all : List HeldEscape). slice_get all (length all - 1)) same
    ∙ ap (slice_get (reverse items ++ item ∷ [])) (omega (arith, length-append (reverse items) (item ∷ [])))
    ∙ slice_get-append_length (reverse items) item

-- what stands at the back stands on top
on_top-reverse : (items : List HeldEscape) (block : List ℕ) → AreJoined items block
    → MatchOption (slice_get (reverse items) (length (reverse items) - 1)) (joined items block ≡ []) (λ item. IsOnTop item (joined items block))
on_top-reverse [] block are = refl
on_top-reverse (item ∷ items) block are =
    subst (λ last. MatchOption last (joined (item ∷ items) block ≡ []) (λ i. IsOnTop i (joined (item ∷ items) block)))
    (sym (slice_get-reverse items item)) (on_top item items block are)

pub on_top-last : (items : List HeldEscape) (block : List ℕ) → AreJoined (reverse items) block
    → MatchOption (slice_get items (length items - 1)) (joined (reverse items) block ≡ []) (λ item. IsOnTop item (joined (reverse items) block))
on_top-last items block are =
    subst (λ (all : List HeldEscape). MatchOption (slice_get all (length all - 1)) (joined (reverse items) block ≡ []) (λ item. IsOnTop item (joined (reverse items) block)))
    (reverse-reverse items) (on_top-reverse (reverse items) block are)

-- what stands below the top
below-back : (items : List HeldEscape) (block : List ℕ) (other : HeldEscape) → AreJoined items block → 2 ≤ length items
    → IsOnTop (slice_index_or items 1 other) (drop 1 (joined items block))
below-back [] block other are two = absurd (omega arith)
below-back (item ∷ []) block other are two = absurd (omega arith)
below-back (Backslash ∷ under ∷ items) block other are two = on_top under items block are
below-back (Comment ∷ under ∷ items) block other are two = on_top under items block are
below-back (Name purpose part ∷ under ∷ items) block other are two = on_top under items block are
below-back (Size part ∷ under ∷ items) block other are two = on_top under items block are
below-back (DelimitedRead purpose delimiter begin ∷ under ∷ items) block other are two = on_top under items (take begin block) are.1
below-back (Width delimiter width is_deep ∷ under ∷ items) block other are two = on_top under items block are
below-back (ConditionRead part begin ∷ under ∷ items) block other are two = on_top under items (take begin block) are.1

-- stands before what stands at the back
pub below-last : (items : List HeldEscape) (block : List ℕ) (other : HeldEscape) → AreJoined (reverse items) block
    → 2 ≤ length items
    → IsOnTop (slice_index_or items (length items - 2) other) (drop 1 (joined (reverse items) block))
below-last items block other are two =
    subst (λ item. IsOnTop item (drop 1 (joined (reverse items) block)))
    (get_or-reverse items 1 other (omega (arith, two)) ∙ ap (λ n. slice_index_or items n other) (omega (arith, two)))
    (below-back (reverse items) block other are (omega (arith, two, length-reverse items)))

-- nothing stands below one
pub below-one : (items : List HeldEscape) (block : List ℕ) → length items < 2 → drop 1 (joined (reverse items) block) ≡ []
below-one items block few =
    drop_all 1 (joined (reverse items) block) (omega (arith, few, length-joined (reverse items) block, length-reverse items))

-- one that begins behind the block
pub joined-begun :
    (item : HeldEscape) (items : List HeldEscape) (block : List ℕ) → AreJoined items block → BeginsBehind (texts_held (joined items block)) item
    → joined (item ∷ items) block ≡ begun item ∷ joined items block
joined-begun Backslash items block are begins = refl
joined-begun Comment items block are begins = refl
joined-begun (Name purpose part) items block are begins = refl
joined-begun (Size part) items block are begins = refl
joined-begun (DelimitedRead purpose delimiter begin) items block are begins =
    let end : begin ≡ length block = begins ∙ held-joined items block are in
    ap (λ n. Delimited purpose delimiter (drop n block) ∷ joined items (take n block)) end
    ∙ ap₂ (λ (text before : List ℕ). Delimited purpose delimiter text ∷ joined items before) (drop-length block) (take-length block)
joined-begun (Width delimiter width is_deep) items block are begins = refl
joined-begun (ConditionRead part begin) items block are begins =
    let end : begin ≡ length block = begins ∙ held-joined items block are in
    ap (λ n. Condition part (drop n block) ∷ joined items (take n block)) end
    ∙ ap₂ (λ (text before : List ℕ). Condition part text ∷ joined items before) (drop-length block) (take-length block)

-- it is joined to the others
pub AreJoined-begun :
    (item : HeldEscape) (items : List HeldEscape) (block : List ℕ) → AreJoined items block → BeginsBehind (texts_held (joined items block)) item
    → AreJoined (item ∷ items) block
AreJoined-begun Backslash items block are begins = are
AreJoined-begun Comment items block are begins = are
AreJoined-begun (Name purpose part) items block are begins = are
AreJoined-begun (Size part) items block are begins = are
AreJoined-begun (DelimitedRead purpose delimiter begin) items block are begins =
    let end : begin ≡ length block = begins ∙ held-joined items block are in
    (omega (arith, end), subst (AreJoined items) (sym (ap (λ n. take n block) end ∙ take-length block)) are)
AreJoined-begun (Width delimiter width is_deep) items block are begins = are
AreJoined-begun (ConditionRead part begin) items block are begins =
    let end : begin ≡ length block = begins ∙ held-joined items block are in
    (omega (arith, end), subst (AreJoined items) (sym (ap (λ n. take n block) end ∙ take-length block)) are)

-- an item behind the others stands on top of them
pub pushed :
    (item : HeldEscape) (items : List HeldEscape) (block : List ℕ) → AreJoined (reverse items) block
    → BeginsBehind (texts_held (joined (reverse items) block)) item
    → joined (reverse (items ++ item ∷ [])) block ≡ begun item ∷ joined (reverse items) block
pushed item items block are begins =
    ap (λ (back : List HeldEscape). joined back block) (reverse-append items (item ∷ [])) ∙ joined-begun item (reverse items) block are begins

-- and is joined to them
pub AreJoined-pushed :
    (item : HeldEscape) (items : List HeldEscape) (block : List ℕ) → AreJoined (reverse items) block
    → BeginsBehind (texts_held (joined (reverse items) block)) item
    → AreJoined (reverse (items ++ item ∷ [])) block
AreJoined-pushed item items block are begins =
    subst (λ (back : List HeldEscape). AreJoined back block) (sym (reverse-append items (item ∷ []))) (AreJoined-begun item (reverse items) block are begins)

-- whether a text is on top
abbrev pub has_text : List OpenEscape → Bool
has_text (Delimited purpose delimiter text ∷ rest) = true
has_text (Condition part text ∷ rest) = true
has_text (_) = false

-- it is if the item on top has one
pub has_text-on_top : (item : HeldEscape) (half : List OpenEscape) → IsOnTop item half → has_text half ≡ holds_text item
has_text-on_top Backslash half top = ap has_text top.same
has_text-on_top Comment half top = ap has_text top.same
has_text-on_top (Name purpose part) half top = ap has_text top.same
has_text-on_top (Size part) half top = ap has_text top.same
has_text-on_top (DelimitedRead purpose delimiter begin) half top = ap has_text top.same
has_text-on_top (Width delimiter width is_deep) half top = ap has_text top.same
has_text-on_top (ConditionRead part begin) half top = ap has_text top.same

-- bytes behind the block belong to the text on top
pub held-append : (items : List HeldEscape) (block : List ℕ) (unit : CopyUnit) → AreJoined items block → has_text (joined items block) ≡ true
    → joined items (block ++ unit_bytes unit) ≡ text_held unit (joined items block)
held-append [] block unit are has = absurd (search (rules, has))
held-append (Backslash ∷ items) block unit are has = absurd (search (rules, has))
held-append (Comment ∷ items) block unit are has = absurd (search (rules, has))
held-append (Name purpose part ∷ items) block unit are has = absurd (search (rules, has))
held-append (Size part ∷ items) block unit are has = absurd (search (rules, has))
held-append (DelimitedRead purpose delimiter begin ∷ items) block unit are has =
    ap₂ (λ (text before : List ℕ). Delimited purpose delimiter text ∷ joined items before)
    (drop-append-le begin block (unit_bytes unit) are.0) (take-append-le begin block (unit_bytes unit) are.0)
held-append (Width delimiter width is_deep ∷ items) block unit are has = absurd (search (rules, has))
held-append (ConditionRead part begin ∷ items) block unit are has =
    ap₂ (λ (text before : List ℕ). Condition part text ∷ joined items before)
    (drop-append-le begin block (unit_bytes unit) are.0) (take-append-le begin block (unit_bytes unit) are.0)

-- a text that begins within the block begins within a longer one, and those below it stay joined
begins-append : (begin : ℕ) (items : List HeldEscape) (block more : List ℕ) → (begin ≤ length block) × AreJoined items (take begin block)
    → (begin ≤ length (block ++ more)) × AreJoined items (take begin (block ++ more))
begins-append begin items block more are =
    (omega (arith, are.0, length-append block more), subst (AreJoined items) (sym (take-append-le begin block more are.0)) are.1)

-- and stay joined
pub AreJoined-held : (items : List HeldEscape) (block : List ℕ) (unit : CopyUnit) → AreJoined items block → has_text (joined items block) ≡ true
    → AreJoined items (block ++ unit_bytes unit)
AreJoined-held [] block unit are has = absurd (search (rules, has))
AreJoined-held (Backslash ∷ items) block unit are has = absurd (search (rules, has))
AreJoined-held (Comment ∷ items) block unit are has = absurd (search (rules, has))
AreJoined-held (Name purpose part ∷ items) block unit are has = absurd (search (rules, has))
AreJoined-held (Size part ∷ items) block unit are has = absurd (search (rules, has))
AreJoined-held (DelimitedRead purpose delimiter begin ∷ items) block unit are has = begins-append begin items block (unit_bytes unit) are
AreJoined-held (Width delimiter width is_deep ∷ items) block unit are has = absurd (search (rules, has))
AreJoined-held (ConditionRead part begin ∷ items) block unit are has = begins-append begin items block (unit_bytes unit) are

-- the text on top stands behind the bytes of those below
pub drop-held : (items : List HeldEscape) (block : List ℕ) → AreJoined items block
    → drop (texts_held (drop 1 (joined items block))) block ≡ text_on_top (joined items block)
drop-held [] block are = are
drop-held (Backslash ∷ items) block are = drop_all _ block (omega (arith, held-joined items block are))
drop-held (Comment ∷ items) block are = drop_all _ block (omega (arith, held-joined items block are))
drop-held (Name purpose part ∷ items) block are = drop_all _ block (omega (arith, held-joined items block are))
drop-held (Size part ∷ items) block are = drop_all _ block (omega (arith, held-joined items block are))
drop-held (DelimitedRead purpose delimiter begin ∷ items) block are =
    ap (λ n. drop n block) (begins-at begin items block are)
drop-held (Width delimiter width is_deep ∷ items) block are = drop_all _ block (omega (arith, held-joined items block are))
drop-held (ConditionRead part begin ∷ items) block are =
    ap (λ n. drop n block) (begins-at begin items block are)

-- and they are no more than all
pub held-rest : (items : List HeldEscape) (block : List ℕ) → AreJoined items block
    → texts_held (drop 1 (joined items block)) ≤ length block
held-rest [] block are = omega arith
held-rest (Backslash ∷ items) block are = omega (arith, held-joined items block are)
held-rest (Comment ∷ items) block are = omega (arith, held-joined items block are)
held-rest (Name purpose part ∷ items) block are = omega (arith, held-joined items block are)
held-rest (Size part ∷ items) block are = omega (arith, held-joined items block are)
held-rest (DelimitedRead purpose delimiter begin ∷ items) block are =
    omega (arith, are.0, held-joined items (take begin block) are.1, length-take-le begin block are.0)
held-rest (Width delimiter width is_deep ∷ items) block are = omega (arith, held-joined items block are)
held-rest (ConditionRead part begin ∷ items) block are =
    omega (arith, are.0, held-joined items (take begin block) are.1, length-take-le begin block are.0)

-- a unit more of a text holds its bytes
pub held-more : (unit : CopyUnit) (half : List OpenEscape) → has_text half ≡ true
    → texts_held (text_held unit half) ≡ texts_held half + length (unit_bytes unit)
held-more unit [] has = absurd (search (rules, has))
held-more unit (OpenBackslash ∷ rest) has = absurd (search (rules, has))
held-more unit (OpenComment ∷ rest) has = absurd (search (rules, has))
held-more unit (OpenName purpose part ∷ rest) has = absurd (search (rules, has))
held-more unit (OpenSize part ∷ rest) has = absurd (search (rules, has))
held-more unit (Delimited purpose delimiter text ∷ rest) has = omega (arith, length-append text (unit_bytes unit))
held-more unit (OpenWidth delimiter width is_deep ∷ rest) has = absurd (search (rules, has))
held-more unit (Condition part text ∷ rest) has = omega (arith, length-append text (unit_bytes unit))

-- what is on top, if it is a text between delimiters, with its delimiter
abbrev pub with_delimiter : ℕ → List OpenEscape → List OpenEscape
with_delimiter d [] = []
with_delimiter d (OpenBackslash ∷ rest) = OpenBackslash ∷ rest
with_delimiter d (OpenComment ∷ rest) = OpenComment ∷ rest
with_delimiter d (OpenName purpose part ∷ rest) = OpenName purpose part ∷ rest
with_delimiter d (OpenSize part ∷ rest) = OpenSize part ∷ rest
with_delimiter d (Delimited purpose delimiter text ∷ rest) = Delimited purpose (Some d) text ∷ rest
with_delimiter d (OpenWidth delimiter width is_deep ∷ rest) = OpenWidth delimiter width is_deep ∷ rest
with_delimiter d (Condition part text ∷ rest) = Condition part text ∷ rest

-- a text between delimiters on top begins where its item says
begin-same :
    (purpose other_purpose : TextUse) (delimiter other : Option ℕ) (begin other_begin : ℕ) (items : List HeldEscape) (block : List ℕ)
    → AreJoined (DelimitedRead purpose delimiter begin ∷ items) block
    → IsOnTop (DelimitedRead other_purpose other other_begin) (joined (DelimitedRead purpose delimiter begin ∷ items) block)
    → other_begin ≡ begin
begin-same purpose other_purpose delimiter other begin other_begin items block are top =
    top.begins ∙ sym (ap (λ (half : List OpenEscape). texts_held (drop 1 half)) top.same) ∙ begins-at begin items block are

-- the use of a text on top
abbrev purpose_on_top : TextUse → List OpenEscape → TextUse
purpose_on_top purpose [] = purpose
purpose_on_top purpose (OpenBackslash ∷ rest) = purpose
purpose_on_top purpose (OpenComment ∷ rest) = purpose
purpose_on_top purpose (OpenName other part ∷ rest) = purpose
purpose_on_top purpose (OpenSize part ∷ rest) = purpose
purpose_on_top purpose (Delimited other delimiter text ∷ rest) = other
purpose_on_top purpose (OpenWidth delimiter width is_deep ∷ rest) = purpose
purpose_on_top purpose (Condition part text ∷ rest) = purpose

-- a text on top with its delimiter, in the place of its item
pub joined-delimited :
    (items : List HeldEscape) (block : List ℕ) (purpose : TextUse) (delimiter : Option ℕ) (begin d : ℕ)
    → AreJoined items block → IsOnTop (DelimitedRead purpose delimiter begin) (joined items block)
    → joined (DelimitedRead purpose (Some d) begin ∷ drop 1 items) block ≡ with_delimiter d (joined items block)
joined-delimited [] block purpose delimiter begin d are top = absurd (search (rules, top.same))
joined-delimited (Backslash ∷ items) block purpose delimiter begin d are top = absurd (search (rules, top.same))
joined-delimited (Comment ∷ items) block purpose delimiter begin d are top = absurd (search (rules, top.same))
joined-delimited (Name use_of part ∷ items) block purpose delimiter begin d are top = absurd (search (rules, top.same))
joined-delimited (Size part ∷ items) block purpose delimiter begin d are top = absurd (search (rules, top.same))
joined-delimited (DelimitedRead use_of other place ∷ items) block purpose delimiter begin d are top =
    ap₂ (λ (p : TextUse) (n : ℕ). Delimited p (Some d) (drop n block) ∷ joined items (take n block))
    (sym (ap (purpose_on_top purpose) top.same))
    (begin-same use_of purpose other delimiter place begin items block are top)
joined-delimited (Width other width is_deep ∷ items) block purpose delimiter begin d are top = absurd (search (rules, top.same))
joined-delimited (ConditionRead part place ∷ items) block purpose delimiter begin d are top = absurd (search (rules, top.same))

-- it is joined to the others
pub AreJoined-delimited :
    (items : List HeldEscape) (block : List ℕ) (purpose : TextUse) (delimiter : Option ℕ) (begin d : ℕ)
    → AreJoined items block → IsOnTop (DelimitedRead purpose delimiter begin) (joined items block)
    → AreJoined (DelimitedRead purpose (Some d) begin ∷ drop 1 items) block
AreJoined-delimited [] block purpose delimiter begin d are top = absurd (search (rules, top.same))
AreJoined-delimited (Backslash ∷ items) block purpose delimiter begin d are top = absurd (search (rules, top.same))
AreJoined-delimited (Comment ∷ items) block purpose delimiter begin d are top = absurd (search (rules, top.same))
AreJoined-delimited (Name use_of part ∷ items) block purpose delimiter begin d are top = absurd (search (rules, top.same))
AreJoined-delimited (Size part ∷ items) block purpose delimiter begin d are top = absurd (search (rules, top.same))
AreJoined-delimited (DelimitedRead use_of other place ∷ items) block purpose delimiter begin d are top =
    subst (λ n. (n ≤ length block) × AreJoined items (take n block)) (sym (begin-same use_of purpose other delimiter place begin items block are top)) are
AreJoined-delimited (Width other width is_deep ∷ items) block purpose delimiter begin d are top = absurd (search (rules, top.same))
AreJoined-delimited (ConditionRead part place ∷ items) block purpose delimiter begin d are top = absurd (search (rules, top.same))

-- a condition on top, with another part
abbrev pub with_part : ConditionPart → List OpenEscape → List OpenEscape
with_part part [] = []
with_part part (OpenBackslash ∷ rest) = OpenBackslash ∷ rest
with_part part (OpenComment ∷ rest) = OpenComment ∷ rest
with_part part (OpenName purpose other ∷ rest) = OpenName purpose other ∷ rest
with_part part (OpenSize other ∷ rest) = OpenSize other ∷ rest
with_part part (Delimited purpose delimiter text ∷ rest) = Delimited purpose delimiter text ∷ rest
with_part part (OpenWidth delimiter width is_deep ∷ rest) = OpenWidth delimiter width is_deep ∷ rest
with_part part (Condition before text ∷ rest) = Condition part text ∷ rest

-- a condition on top begins where its item says
condition-same :
    (part other : ConditionPart) (begin other_begin : ℕ) (items : List HeldEscape) (block : List ℕ)
    → AreJoined (ConditionRead part begin ∷ items) block → IsOnTop (ConditionRead other other_begin) (joined (ConditionRead part begin ∷ items) block)
    → other_begin ≡ begin
condition-same part other begin other_begin items block are top =
    top.begins ∙ sym (ap (λ (half : List OpenEscape). texts_held (drop 1 half)) top.same) ∙ begins-at begin items block are

-- a condition on top with another part, in the place of its item
pub joined-turned :
    (items : List HeldEscape) (block : List ℕ) (before : ConditionPart) (begin : ℕ) (part : ConditionPart)
    → AreJoined items block → IsOnTop (ConditionRead before begin) (joined items block)
    → joined (ConditionRead part begin ∷ drop 1 items) block ≡ with_part part (joined items block)
joined-turned [] block before begin part are top = absurd (search (rules, top.same))
joined-turned (Backslash ∷ items) block before begin part are top = absurd (search (rules, top.same))
joined-turned (Comment ∷ items) block before begin part are top = absurd (search (rules, top.same))
joined-turned (Name purpose other ∷ items) block before begin part are top = absurd (search (rules, top.same))
joined-turned (Size other ∷ items) block before begin part are top = absurd (search (rules, top.same))
joined-turned (DelimitedRead purpose delimiter place ∷ items) block before begin part are top = absurd (search (rules, top.same))
joined-turned (Width delimiter width is_deep ∷ items) block before begin part are top = absurd (search (rules, top.same))
joined-turned (ConditionRead other place ∷ items) block before begin part are top =
    ap (λ n. Condition part (drop n block) ∷ joined items (take n block)) (condition-same other before place begin items block are top)

-- it is joined to the others
pub AreJoined-turned :
    (items : List HeldEscape) (block : List ℕ) (before : ConditionPart) (begin : ℕ) (part : ConditionPart)
    → AreJoined items block → IsOnTop (ConditionRead before begin) (joined items block)
    → AreJoined (ConditionRead part begin ∷ drop 1 items) block
AreJoined-turned [] block before begin part are top = absurd (search (rules, top.same))
AreJoined-turned (Backslash ∷ items) block before begin part are top = absurd (search (rules, top.same))
AreJoined-turned (Comment ∷ items) block before begin part are top = absurd (search (rules, top.same))
AreJoined-turned (Name purpose other ∷ items) block before begin part are top = absurd (search (rules, top.same))
AreJoined-turned (Size other ∷ items) block before begin part are top = absurd (search (rules, top.same))
AreJoined-turned (DelimitedRead purpose delimiter place ∷ items) block before begin part are top = absurd (search (rules, top.same))
AreJoined-turned (Width delimiter width is_deep ∷ items) block before begin part are top = absurd (search (rules, top.same))
AreJoined-turned (ConditionRead other place ∷ items) block before begin part are top =
    subst (λ n. (n ≤ length block) × AreJoined items (take n block)) (sym (condition-same other before place begin items block are top)) are

-- all but the last of a list, backwards
reverse-front : (items : List HeldEscape) → reverse (take (length (reverse items) - 1) (reverse items)) ≡ drop 1 items
reverse-front [] = refl
reverse-front (item ∷ items) =
    ap (λ (all : List HeldEscape). reverse (take (length all - 1) all)) (reverse-append (item ∷ []) items)
    ∙ ap (λ n. reverse (take n (reverse items ++ item ∷ []))) (omega (arith, length-append (reverse items) (item ∷ [])))
    ∙ ap reverse (take-append_seam (reverse items) (item ∷ []))
    ∙ reverse-reverse items

-- what stands in the place of the last, backwards
pub reverse-replaced : (items : List HeldEscape) (item : HeldEscape)
    → reverse (take (length items - 1) items ++ item ∷ []) ≡ item ∷ drop 1 (reverse items)
reverse-replaced items item =
    reverse-append (take (length items - 1) items) (item ∷ [])
    ∙ ap (λ (back : List HeldEscape). item ∷ back)
    (ap (λ (all : List HeldEscape). reverse (take (length all - 1) all)) (sym (reverse-reverse items)) ∙ reverse-front (reverse items))
