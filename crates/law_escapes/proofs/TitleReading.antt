-- A title of printable bytes is read byte by byte.
use Rattle.std.proofs.Common.{◌≡◌, ℕ, ◌+◌, ◌≤◌, Bool, true, false, List, [], ◌∷◌, ◌++◌, length, map, Option, None, refl, ap, sym, subst, ◌∙◌, arith, append_assoc, All, ◌&&◌, ◌||◌, not, nat_lt, if◌then◌else◌, ◌==◌, eq-eqb, le-ltb, append-nil, length-append}
use Rattle.std.proofs.lemmas.List.{length-map}
use Rattle.std.proofs.lemmas.List.Elements.{All-head, All-tail}
use Rattle.input_escapes.specs.OpenEscape.{Backslash}
use Rattle.input_escapes.specs.OpenEscapes.{Reads}
use Rattle.input_escapes.specs.declared.open_escape.CopyUnit.TheVariants.{Byte}
use Rattle.input_escapes.specs.declared.open_escape.Found.TheVariants.{GoesOn, Unit as GivesUnit}
use Rattle.page_model.specs.Glyphs.{glyph_blank}
use Rattle.page_model.specs.Titles.{page_mark}
use Rattle.input_source.specs.Bytes.{backslash, blank, is_dropped, is_silent, newline, tab}
use Rattle.law_escapes.proofs.TitleColumns.{byte_kept, not-byte, printable-bounds}
use Rattle.law_escapes.specs.TitleLaws.{IsDelimiter, IsPartByte, IsTitle, TitleOnLine, closing, is_printable, title_bytes}
use Rattle.run_model.specs.Reading.{byte_taking, title_read, undropped_taking}
use Rattle.run_model.specs.Reading.Ends.{due}
use Rattle.run_model.specs.Reading.Found.{read_in}
use Rattle.run_model.specs.Reading.Items.{PageInput, Taking, going_on}
use Rattle.run_model.specs.Reading.Titles.{behind_part, bytes_for, empty_title_ended, is_page_character, part_taking, title_ended, title_opened}
use Rattle.run_model.specs.Registers.{AllRegisters, Change, Known, PartEnds, TitleBegins, TitleGets, changed_by_all}
use Rattle.run_model.specs.TitleTexts.{TitleText, title_begun, title_length, with_bytes}
use Rattle.run_model.specs.declared.line_state.LineState.{LineState}
use Rattle.run_model.specs.declared.line_state.LineState.TheVariants.{Title as InTitle, TitleFront, Collecting}
use Rattle.run_model.specs.declared.purpose.Purpose.TheVariants.{Arguments as InArguments}
use Rattle.run_model.specs.declared.request.Request.TheVariants.{Title as PlaceTitle}
use Rattle.run_model.specs.declared.title.TitlePart.{TitlePart}
use Rattle.run_model.specs.declared.title.TitlePart.TheVariants.{Centre, Left, Right}

-- what is read of a title's line, and the title as far as it was read
pub record TitleStage : Type 0 where
  pub reading : LineState
  pub title : TitleText

abbrev pub at : LineState → TitleText → TitleStage
at reading title = record { reading = reading; title = title }

-- registers with this title
abbrev pub titled : TitleText → AllRegisters → AllRegisters
titled t rs = record rs { title = t }

-- this is read on, and the registers change so
abbrev pub changing_taking : PageInput → LineState → List Change → Taking
changing_taking i reading changes =
    record { input = i; reading = reading; effect = record { messages = []; changes = changes; calls = []; events = [] } }

-- an input where nothing is half read
abbrev pub whole : PageInput → PageInput
whole i = record i { escapes = [] }

-- a byte leads from one stage to another, where this character stands for the page number
pub record TitleTurns (page : Option ℕ) (p q : TitleStage) (b : ℕ) : Type 0 where
  pub changes : List Change
  pub changed : (rs : AllRegisters) → changed_by_all changes (titled p.title rs) ≡ titled q.title rs
  pub takes :
      (k : Known) (i : PageInput) → k.registers.page_character ≡ page → k.registers.title ≡ p.title
      → byte_taking k p.reading (whole i) b ≡ changing_taking (whole i) q.reading changes

-- bytes lead from one stage to another, and on the way the title has so many bytes at the most
pub data TitlePath (page : Option ℕ) (most : ℕ) : TitleStage → List ℕ → TitleStage → Type 0 where
  Here : (p : TitleStage) → TitlePath page most p [] p
  Onward : (p q r : TitleStage) (b : ℕ) (bytes : List ℕ) → due p.reading ≡ None → TitleTurns page p q b → title_length q.title ≤ most
      → TitlePath page most q bytes r → TitlePath page most p (b ∷ bytes) r

TitlePath-append : (page : Option ℕ) (most : ℕ) (p q r : TitleStage) (front behind : List ℕ)
    → TitlePath page most p front q → TitlePath page most q behind r → TitlePath page most p (front ++ behind) r
TitlePath-append page most _ q r _ behind (Here p) others = others
TitlePath-append page most p _ r _ behind (Onward _ next q b bytes none_due turns few path) others =
    Onward p next r b (bytes ++ behind) none_due turns few (TitlePath-append page most next q r bytes behind path others)

-- a printable byte is no other
printable-undropped : (b : ℕ) → is_printable b ≡ true → is_dropped b ≡ false
printable-undropped b prints =
    let bounds = printable-bounds b prints in
    let low : nat_lt b 32 ≡ false = le-ltb b 32 bounds.0 in
    ap (λ (c : Bool). (c || b == 127) && not (b == newline || b == tab || is_silent b)) low
    ∙ ap (λ (c : Bool). c && not (b == newline || b == tab || is_silent b)) (not-byte b 127 (λ same. omega (arith, bounds.1, same)))

printable-line : (b : ℕ) → is_printable b ≡ true → (b == newline) ≡ false
printable-line b prints = let bounds = printable-bounds b prints in not-byte b newline (λ same. omega (arith, bounds.0, same))

neither : (x y : Bool) → x ≡ false → y ≡ false → (x || y) ≡ false
neither x y first second = ap (λ (c : Bool). c || y) first ∙ second

printable-plain : (b : ℕ) → is_printable b ≡ true → (b == tab || is_silent b) ≡ false
printable-plain b prints =
    let bounds = printable-bounds b prints in
    let no : (c : ℕ) → c ≤ 31 → (b == c) ≡ false = λ c few. not-byte b c (λ same. omega (arith, bounds.0, few, same)) in
    neither (b == tab) (is_silent b) (no tab (omega arith))
    (neither (b == 2) (b == 3 || (b == 5 || (b == 6 || (b == 7 || false)))) (no 2 (omega arith))
    (neither (b == 3) (b == 5 || (b == 6 || (b == 7 || false))) (no 3 (omega arith))
    (neither (b == 5) (b == 6 || (b == 7 || false)) (no 5 (omega arith))
    (neither (b == 6) (b == 7 || false) (no 6 (omega arith))
    (neither (b == 7) false (no 7 (omega arith)) refl)))))

-- a byte that begins no escape is read as itself
unit-read : (b : ℕ) → (b == backslash) ≡ false
    → let reads : Reads = if b == backslash then (GoesOn, Backslash ∷ []) else (GivesUnit (Byte b), []) in reads ≡ (GivesUnit (Byte b), [])
unit-read b none = ap (λ (c : Bool). let reads : Reads = if c then (GoesOn, Backslash ∷ []) else (GivesUnit (Byte b), []) in reads) none

-- the delimiter in front
turns-front : (page : Option ℕ) (t : TitleText) (d : ℕ) → IsDelimiter d → TitleTurns page (at TitleFront t) (at (InTitle d) (title_begun [])) d
turns-front page t d is = record {
  changes = TitleBegins [] ∷ [];
  changed = λ rs. refl;
  takes = λ k i same_page same_title.
      ap (λ (c : Bool). if c then going_on (whole i) TitleFront else undropped_taking k TitleFront (whole i) d) (printable-undropped d is.prints)
      ∙ ap (read_in k TitleFront (whole i)) (unit-read d is.no_escape)
      ∙ ap (λ (c : Bool). if c then empty_title_ended k (whole i) else if d == blank then going_on (whole i) TitleFront else title_opened (whole i) d [])
      (printable-line d is.prints)
      ∙ ap (λ (c : Bool). if c then going_on (whole i) TitleFront else title_opened (whole i) d []) is.is_visible;
}

-- what a byte of a part stands for
bytes-kept : (k : Known) (d : ℕ) (page : Option ℕ) (b : ℕ) → k.registers.page_character ≡ page → IsPartByte d b → bytes_for k b ≡ byte_kept page b ∷ []
bytes-kept k d page b same_page is =
    let others : Bool → Bool → List ℕ = λ is_blank is_nothing. if is_blank then glyph_blank ∷ [] else if is_nothing then [] else b ∷ [] in
    ap (λ (c : Option ℕ). if is_page_character c b then page_mark ∷ [] else others (b == blank) (b == tab || is_silent b)) same_page
    ∙ ap (λ (c : Bool). if is_page_character page b then page_mark ∷ [] else others (b == blank) c) (printable-plain b is.prints)
    ∙ by_kind (is_page_character page b) (b == blank)
  where
    by_kind : (is_page is_blank : Bool)
        → (if is_page then page_mark ∷ [] else if is_blank then glyph_blank ∷ [] else b ∷ []) ≡ (if is_page then page_mark else if is_blank then glyph_blank else b) ∷ []
    by_kind true is_blank = refl
    by_kind false true = refl
    by_kind false false = refl

turns-part : (page : Option ℕ) (t : TitleText) (d b : ℕ) → IsPartByte d b
    → TitleTurns page (at (InTitle d) t) (at (InTitle d) (with_bytes (byte_kept page b ∷ []) t)) b
turns-part page t d b is = record {
  changes = TitleGets (byte_kept page b ∷ []) ∷ [];
  changed = λ rs. refl;
  takes = λ k i same_page same_title.
      ap (λ (c : Bool). if c then going_on (whole i) (InTitle d) else undropped_taking k (InTitle d) (whole i) b) (printable-undropped b is.prints)
      ∙ ap (title_read k (whole i) d b) is.no_delimiter
      ∙ ap (read_in k (InTitle d) (whole i)) (unit-read b is.no_escape)
      ∙ ap (λ (c : Bool). if c then title_ended k (whole i) else part_taking (whole i) d (bytes_for k b)) (printable-line b is.prints)
      ∙ ap (part_taking (whole i) d) (bytes-kept k d page b same_page is);
}

-- the delimiter behind a part
taking-delimiter : (k : Known) (i : PageInput) (t : TitleText) (d : ℕ) → IsDelimiter d → k.registers.title ≡ t
    → byte_taking k (InTitle d) (whole i) d ≡ behind_part (whole i) d t.part
taking-delimiter k i t d is same_title =
    ap (λ (c : Bool). if c then going_on (whole i) (InTitle d) else undropped_taking k (InTitle d) (whole i) d) (printable-undropped d is.prints)
    ∙ ap (title_read k (whole i) d d) (eq-eqb d d refl)
    ∙ ap (λ (u : TitleText). behind_part (whole i) d u.part) same_title

turns-left : (page : Option ℕ) (left centre right : List ℕ) (d : ℕ) → IsDelimiter d
    → TitleTurns page (at (InTitle d) (record { part = Left; left = left; centre = centre; right = right }))
    (at (InTitle d) (record { part = Centre; left = left; centre = centre; right = right })) d
turns-left page left centre right d is = record {
  changes = PartEnds ∷ [];
  changed = λ rs. refl;
  takes = λ k i same_page same_title. taking-delimiter k i (record { part = Left; left = left; centre = centre; right = right }) d is same_title;
}

turns-centre : (page : Option ℕ) (left centre right : List ℕ) (d : ℕ) → IsDelimiter d
    → TitleTurns page (at (InTitle d) (record { part = Centre; left = left; centre = centre; right = right }))
    (at (InTitle d) (record { part = Right; left = left; centre = centre; right = right })) d
turns-centre page left centre right d is = record {
  changes = PartEnds ∷ [];
  changed = λ rs. refl;
  takes = λ k i same_page same_title. taking-delimiter k i (record { part = Centre; left = left; centre = centre; right = right }) d is same_title;
}

turns-right : (page : Option ℕ) (left centre right : List ℕ) (d : ℕ) → IsDelimiter d
    → let t : TitleText = record { part = Right; left = left; centre = centre; right = right } in
    TitleTurns page (at (InTitle d) t) (at (Collecting (InArguments false PlaceTitle)) t) d
turns-right page left centre right d is = record {
  changes = [];
  changed = λ rs. refl;
  takes = λ k i same_page same_title. taking-delimiter k i (record { part = Right; left = left; centre = centre; right = right }) d is same_title;
}

-- bytes that are added to a part
with-again : (part : TitlePart) (left centre right xs ys : List ℕ)
    → let t : TitleText = record { part = part; left = left; centre = centre; right = right } in with_bytes ys (with_bytes xs t) ≡ with_bytes (xs ++ ys) t
with-again Left left centre right xs ys =
    ap (λ (bytes : List ℕ). record { part = Left; left = bytes; centre = centre; right = right }) (append_assoc left xs ys)
with-again Centre left centre right xs ys =
    ap (λ (bytes : List ℕ). record { part = Centre; left = left; centre = bytes; right = right }) (append_assoc centre xs ys)
with-again Right left centre right xs ys =
    ap (λ (bytes : List ℕ). record { part = Right; left = left; centre = centre; right = bytes }) (append_assoc right xs ys)

with-none : (part : TitlePart) (left centre right : List ℕ)
    → let t : TitleText = record { part = part; left = left; centre = centre; right = right } in with_bytes [] t ≡ t
with-none Left left centre right = ap (λ (bytes : List ℕ). record { part = Left; left = bytes; centre = centre; right = right }) (append-nil left)
with-none Centre left centre right = ap (λ (bytes : List ℕ). record { part = Centre; left = left; centre = bytes; right = right }) (append-nil centre)
with-none Right left centre right = ap (λ (bytes : List ℕ). record { part = Right; left = left; centre = centre; right = bytes }) (append-nil right)

with-length : (part : TitlePart) (left centre right xs : List ℕ)
    → let t : TitleText = record { part = part; left = left; centre = centre; right = right } in title_length (with_bytes xs t) ≡ title_length t + length xs
with-length Left left centre right xs = omega (arith, length-append left xs)
with-length Centre left centre right xs = omega (arith, length-append centre xs)
with-length Right left centre right xs = omega (arith, length-append right xs)

-- the bytes of a part
path-part : (page : Option ℕ) (most : ℕ) (d : ℕ) (t : TitleText) (bytes : List ℕ) → All (IsPartByte d) bytes → title_length t + length bytes ≤ most
    → TitlePath page most (at (InTitle d) t) bytes (at (InTitle d) (with_bytes (map (byte_kept page) bytes) t))
path-part page most d t [] are few =
    subst (λ (u : TitleText). TitlePath page most (at (InTitle d) t) [] (at (InTitle d) u)) (sym (with-none t.part t.left t.centre t.right)) (Here (at (InTitle d) t))
path-part page most d t (b ∷ bytes) are few =
    let next : TitleText = with_bytes (byte_kept page b ∷ []) t in
    let size : title_length next ≡ title_length t + 1 = with-length t.part t.left t.centre t.right (byte_kept page b ∷ []) in
    subst (λ (u : TitleText). TitlePath page most (at (InTitle d) t) (b ∷ bytes) (at (InTitle d) u))
    (with-again t.part t.left t.centre t.right (byte_kept page b ∷ []) (map (byte_kept page) bytes))
    (Onward (at (InTitle d) t) (at (InTitle d) next) (at (InTitle d) (with_bytes (map (byte_kept page) bytes) next)) b bytes refl
    (turns-part page t d b (All-head (IsPartByte d) b bytes are)) (omega (arith, few, size))
    (path-part page most d next bytes (All-tail (IsPartByte d) b bytes are) (omega (arith, few, size))))

-- a title as it is read
abbrev pub title_kept : Option ℕ → TitleOnLine → TitleText
title_kept page t = record { part = Right; left = map (byte_kept page) t.left; centre = map (byte_kept page) t.middle; right = map (byte_kept page) t.right }

-- what is read behind the parts: where the last delimiter is left out, more of the right one
abbrev pub last_reading : ℕ → Bool → LineState
last_reading d true = Collecting (InArguments false PlaceTitle)
last_reading d false = InTitle d

path-closing : (page : Option ℕ) (most : ℕ) (d : ℕ) (left centre right : List ℕ) (is_closed : Bool) → IsDelimiter d
    → let t : TitleText = record { part = Right; left = left; centre = centre; right = right } in
    title_length t ≤ most → TitlePath page most (at (InTitle d) t) (closing d is_closed) (at (last_reading d is_closed) t)
path-closing page most d left centre right true is few =
    let t : TitleText = record { part = Right; left = left; centre = centre; right = right } in
    let last : TitleStage = at (Collecting (InArguments false PlaceTitle)) t in
    Onward (at (InTitle d) t) last last d [] refl (turns-right page left centre right d is) few (Here last)
path-closing page most d left centre right false is few = Here (at (InTitle d) (record { part = Right; left = left; centre = centre; right = right }))

pub path-title : (page : Option ℕ) (most : ℕ) (t : TitleOnLine) (before : TitleText) → IsTitle t → length t.left + length t.middle + length t.right ≤ most
    → TitlePath page most (at TitleFront before) (title_bytes t) (at (last_reading t.delimiter t.is_closed) (title_kept page t))
path-title page most t before is few =
    let d : ℕ = t.delimiter in
    let left : List ℕ = map (byte_kept page) t.left in
    let centre : List ℕ = map (byte_kept page) t.middle in
    let right : List ℕ = map (byte_kept page) t.right in
    let of : TitlePart → List ℕ → List ℕ → List ℕ → TitleText = λ part left centre right.
    record { part = part; left = left; centre = centre; right = right } in
    let last : TitleStage = at (last_reading d t.is_closed) (title_kept page t) in
    let sizes : (length left ≡ length t.left) × (length centre ≡ length t.middle) × (length right ≡ length t.right) =
    (length-map t.left (byte_kept page), length-map t.middle (byte_kept page), length-map t.right (byte_kept page)) in
    let behind_right : List ℕ = closing d t.is_closed in
    let behind_middle : List ℕ = d ∷ (t.right ++ behind_right) in
    let behind_left : List ℕ = d ∷ (t.middle ++ behind_middle) in
    Onward (at TitleFront before) (at (InTitle d) (title_begun [])) last d (t.left ++ behind_left) refl (turns-front page before d is.delimiter_is) (omega arith)
    (TitlePath-append page most (at (InTitle d) (title_begun [])) (at (InTitle d) (of Left left [] [])) last t.left behind_left
    (path-part page most d (title_begun []) t.left is.left_is (omega (arith, few)))
    (Onward (at (InTitle d) (of Left left [] [])) (at (InTitle d) (of Centre left [] [])) last d (t.middle ++ behind_middle) refl
    (turns-left page left [] [] d is.delimiter_is) (omega (arith, few, sizes.0))
    (TitlePath-append page most (at (InTitle d) (of Centre left [] [])) (at (InTitle d) (of Centre left centre [])) last t.middle behind_middle
    (path-part page most d (of Centre left [] []) t.middle is.middle_is (omega (arith, few, sizes.0)))
    (Onward (at (InTitle d) (of Centre left centre [])) (at (InTitle d) (of Right left centre [])) last d (t.right ++ behind_right) refl
    (turns-centre page left centre [] d is.delimiter_is) (omega (arith, few, sizes.0, sizes.1))
    (TitlePath-append page most (at (InTitle d) (of Right left centre [])) (at (InTitle d) (of Right left centre right)) last t.right behind_right
    (path-part page most d (of Right left centre []) t.right is.right_is (omega (arith, few, sizes.0, sizes.1)))
    (path-closing page most d left centre right t.is_closed is.delimiter_is (omega (arith, few, sizes.0, sizes.1, sizes.2))))))))
