-- Text of a diversion gives the boxes that it is of: byte by byte, line by line, and box by box.
use Rattle.std.proofs.Common.{◌≡◌, ℕ, ◌+◌, ◌≤◌, Bool, true, false, Some, None, List, [], ◌∷◌, ◌++◌, length, refl, sym, ap, subst, ◌∙◌, arith, append_assoc, append-nil, length-append, lt-ltb, nat_lt, set, if◌then◌else◌}
use Rattle.std.specs.List.{AllByRecursion}
use Rattle.std.proofs.Math.Seq.{get_or-append_seam, set-append_seam}
use Rattle.input_model.specs.Input.Names.{calling_on}
use Rattle.roff_store.specs.TextCalls.{PushOpen}
use Rattle.page_model.specs.DueTexts.{Gets}
use Rattle.run_model.specs.Following.{text_changed}
use Rattle.run_model.proofs.ItemsTaken.{Fits, Origin}
use Rattle.law_reading_again.proofs.DivertedBoxes.{outer}
use Rattle.page_model.specs.Diverted.{diverted, escaped, escaped_byte}
use Rattle.page_model.specs.DivertedText.{diverted_line, diverted_lines}
use Rattle.page_model.specs.declared.event.Event.TheVariants.{WordEnd, LineEnd, Count}
use Rattle.page_model.specs.Layout.{Box, Lined, Empty}
use Rattle.page_model.specs.Words.{is_empty}
use Rattle.page_model.specs.declared.glyph.Glyph.{Glyph}
use Rattle.page_model.specs.declared.glyph.Glyph.TheVariants.{Blanks, Printed}
use Rattle.run_model.proofs.PlainRuns.{behind_byte, behind_bytes}
use Rattle.run_model.specs.declared.event.PageEvent.TheVariants.{Text}
use Rattle.run_model.specs.Reading.Items.{PageInput}
use Rattle.run_model.specs.Reading.TextLines.{blank_line}
use Rattle.run_model.specs.Run.{State, after}
use Rattle.run_model.specs.declared.line_state.LineState.TheVariants.{LineStart}
use Rattle.law_reading_again.specs.Again.{AllPrint, Prints, box_length, is_printable}
use Rattle.law_reading_again.proofs.Bytes.{Form, IsBlank, IsByte, IsSlash, form, glyph_line, means-backslash, means-blank, means-byte, means-empty, means-first_backslash, means-newline, means-no_width, means-slash}
use Rattle.law_reading_again.proofs.Glyphs.{glyph_of, glyphs_behind, glyphs_of, length-line_of, line_of, printed-again}
use Rattle.law_reading_again.proofs.LineEnds.{Stands-empty, Stands-line, after-empty, after-line, again_box, behind_empty, behind_line}
use Rattle.law_reading_again.proofs.Standing.{none_goes_on}
use Rattle.law_reading_again.proofs.TextRuns.{HasRoom, Point, Scene, Way, room-behind, room-fits, room-grown, step-byte, text_run, texts_at, way-escape, way-from, way-glyph, way-none, way-then, way-to}

-- within a line, and where one begins
abbrev pub within : List Box → List Glyph → List ℕ → List ℕ → PageInput → Point
within boxes glyphs text bytes i = record { reading = glyph_line; boxes = boxes; glyphs = glyphs; text = text; bytes = bytes; input = i }

abbrev pub line_at : List Box → List ℕ → List ℕ → PageInput → Point
line_at boxes text bytes i = record { reading = LineStart; boxes = boxes; glyphs = []; text = text; bytes = bytes; input = i }

-- what is counted of bytes behind others
behind_bytes-append : (from : Origin) (front bytes : List ℕ) (i : PageInput)
    → behind_bytes from (front ++ bytes) i ≡ behind_bytes from bytes (behind_bytes from front i)
behind_bytes-append from [] bytes i = refl
behind_bytes-append from (b ∷ front) bytes i = behind_bytes-append from front bytes (behind_byte from b i)

-- each diversion around the innermost one has its text
abbrev pub IsNested : Scene → Type 0
IsNested c = length c.older ≡ outer c.around

-- the innermost one's is the last, and grows
text-gets : (c : Scene) (made bytes : List ℕ) (i : PageInput) → IsNested c → i.open_texts ≡ texts_at c made
    → text_changed (Gets (outer c.around) bytes) i ≡ record i { open_texts = texts_at c (made ++ bytes) }
text-gets c made bytes i nested texts =
    let with : List (List ℕ) → PageInput = λ texts. record i { open_texts = texts } in
    let few : nat_lt (length c.older) (length (texts_at c made)) ≡ true =
    lt-ltb (length c.older) (length (texts_at c made)) (omega (arith, length-append c.older (made ∷ []))) in
    ap (λ (n : ℕ). text_changed (Gets n bytes) i) (sym nested)
    ∙ ap (λ (texts : List (List ℕ)). text_changed (Gets (length c.older) bytes) (with texts)) texts
    ∙ ap (λ (so : Bool). calling_on (λ id. PushOpen id bytes) (if so then Some (length c.older) else None) (with (texts_at c made))) few
    ∙ ap (λ (text : List ℕ). with (set (texts_at c made) (length c.older) (text ++ bytes))) (get_or-append_seam c.older made [] [])
    ∙ ap with (set-append_seam c.older made [] (made ++ bytes))

-- a byte of a line, by its form
way-form : (c : Scene) (boxes : List Box) (glyphs : List Glyph) (text front more : List ℕ) (g : Glyph) (i : PageInput) → Form front g
    → length (line_of (g ∷ glyphs)) ≤ c.limits.line
    → Way c (within boxes glyphs text (front ++ more) i) (within boxes (g ∷ glyphs) text more (behind_bytes c.from front i))
way-form c boxes glyphs text _ more _ i IsBlank fits =
    way-escape c (within boxes glyphs text more i) 32 more (Blanks 1) refl means-backslash means-blank fits
way-form c boxes glyphs text _ more _ i IsSlash fits =
    way-escape c (within boxes glyphs text more i) 101 more (Printed 92) refl means-backslash means-slash fits
way-form c boxes glyphs text _ more _ i (IsByte b is_text no_blank) fits =
    way-glyph c (within boxes glyphs text more i) b more (Printed b) refl (means-byte b is_text no_blank) fits

-- the bytes of a text, within a line
way-text : (c : Scene) (boxes : List Box) (glyphs : List Glyph) (made text more : List ℕ) (i : PageInput)
    → AllByRecursion (λ b. is_printable b ≡ true) text
    → length (line_of glyphs) + length text ≤ c.limits.line
    → Way c (within boxes glyphs made (escaped text ++ more) i) (within boxes (glyphs_behind text glyphs) made more (behind_bytes c.from (escaped text) i))
way-text c boxes glyphs made [] more i are fits = way-none c (within boxes glyphs made more i)
way-text c boxes glyphs made (b ∷ text) more i are fits =
    let front : List ℕ = escaped_byte b in
    let j : PageInput = behind_bytes c.from front i in
    let grows = length-line_of b glyphs in
    way-from c (within boxes glyphs made ((front ++ escaped text) ++ more) i) _ (front ++ (escaped text ++ more))
    (append_assoc front (escaped text) more)
    (way-to c (within boxes glyphs made (front ++ (escaped text ++ more)) i)
    (within boxes (glyphs_behind text (glyph_of b ∷ glyphs)) made more (behind_bytes c.from (escaped text) j))
    (within boxes (glyphs_behind text (glyph_of b ∷ glyphs)) made more (behind_bytes c.from (front ++ escaped text) i))
    (ap (within boxes (glyphs_behind text (glyph_of b ∷ glyphs)) made more) (sym (behind_bytes-append c.from front (escaped text) i)))
    (way-then c (within boxes glyphs made (front ++ (escaped text ++ more)) i)
    (within boxes (glyph_of b ∷ glyphs) made (escaped text ++ more) j)
    (within boxes (glyphs_behind text (glyph_of b ∷ glyphs)) made more (behind_bytes c.from (escaped text) j))
    (way-form c boxes glyphs made front (escaped text ++ more) (glyph_of b) i (form b are.0) (omega (arith, fits, grows)))
    (way-text c boxes (glyph_of b ∷ glyphs) made text more j are.1 (omega (arith, fits, grows)))))

-- a newline behind a glyph: the line is finished, and put in the diversion
way-newline : (c : Scene) (boxes : List Box) (glyphs : List Glyph) (made more : List ℕ) (i : PageInput) → IsNested c
    → is_empty glyphs ≡ false
    → length (line_of glyphs) ≤ c.limits.line → length (made ++ diverted_line (again_box glyphs)) ≤ c.most
    → Way c (within boxes glyphs made (10 ∷ more) i) (line_at (again_box glyphs ∷ boxes) (made ++ diverted_line (again_box glyphs)) more (behind_byte c.from 10 i))
way-newline c boxes [] made more i nested some fits few = absurd (cc)
way-newline c boxes (g ∷ gs) made more i nested some fits few = λ h stands room.
    let j : PageInput = behind_byte c.from 10 i in
    let grown : List ℕ = made ++ diverted_line (again_box (g ∷ gs)) in
    let behind : HasRoom c more made j = room-behind c 10 more made i room in
    let larger : HasRoom c more grown j = room-grown c more made grown j few behind in
    let s : State = text_run c.base c.from LineStart [] (texts_at c made) more j h in
    let got = text-gets c made (diverted_line (again_box (g ∷ gs))) s.input nested refl in record {
      steps = 5;
      history = behind_line h;
      there = ap (after c.limits 4)
          (step-byte c.limits c.base c.from glyph_line LineStart [] [] (texts_at c made) 10 more (Text WordEnd ∷ Text LineEnd ∷ Text Count ∷ []) i h refl refl means-newline
          (none_goes_on c.around boxes (g ∷ gs) h stands) (omega (arith, room.charged))
          (room-fits c LineStart [] made more j h refl behind))
          ∙ after-line c.limits c.around boxes g gs s refl refl stands fits room.output
          (subst (Fits c.limits c.base.registers) (sym got) (room-fits c LineStart [] grown more j h refl larger))
          ∙ ap (λ (i : PageInput). record s { input = i; history = behind_line h }) got;
      stands = Stands-line c.around boxes g gs h stands;
      room = larger;
    }

-- a newline where a line begins: an empty box is put there
way-empty : (c : Scene) (boxes : List Box) (made more : List ℕ) (i : PageInput) → IsNested c → length (made ++ 10 ∷ []) ≤ c.most
    → Way c (line_at boxes made (10 ∷ more) i) (line_at (Empty ∷ boxes) (made ++ 10 ∷ []) more (behind_byte c.from 10 i))
way-empty c boxes made more i nested few = λ h stands room.
    let j : PageInput = behind_byte c.from 10 i in
    let grown : List ℕ = made ++ 10 ∷ [] in
    let behind : HasRoom c more made j = room-behind c 10 more made i room in
    let larger : HasRoom c more grown j = room-grown c more made grown j few behind in
    let s : State = text_run c.base c.from LineStart [] (texts_at c made) more j h in
    let got = text-gets c made (10 ∷ []) s.input nested refl in record {
      steps = 5;
      history = behind_empty h;
      there = ap (after c.limits 4)
          (step-byte c.limits c.base c.from LineStart LineStart [] [] (texts_at c made) 10 more blank_line i h refl refl means-empty
          (none_goes_on c.around boxes [] h stands) (omega (arith, room.charged)) (room-fits c LineStart [] made more j h refl behind))
          ∙ after-empty c.limits c.around boxes s refl refl stands room.output
          (subst (Fits c.limits c.base.registers) (sym got) (room-fits c LineStart [] grown more j h refl larger))
          ∙ ap (λ (i : PageInput). record s { input = i; history = behind_empty h }) got;
      stands = Stands-empty c.around boxes h stands;
      room = larger;
    }

-- the glyphs of a text
some-behind : (text : List ℕ) (g : Glyph) (glyphs : List Glyph) → is_empty (glyphs_behind text (g ∷ glyphs)) ≡ false
some-behind [] g glyphs = refl
some-behind (b ∷ text) g glyphs = some-behind text (glyph_of b) (g ∷ glyphs)

length-behind : (text : List ℕ) (glyphs : List Glyph) → length (line_of (glyphs_behind text glyphs)) ≡ length (line_of glyphs) + length text
length-behind [] glyphs = omega arith
length-behind (b ∷ text) glyphs = omega (arith, length-behind text (glyph_of b ∷ glyphs), length-line_of b glyphs)

-- a line with a text
way-lined : (c : Scene) (boxes : List Box) (text made more : List ℕ) (i : PageInput) → IsNested c
    → AllByRecursion (λ b. is_printable b ≡ true) text
    → length text ≤ c.limits.line → length (made ++ diverted text) ≤ c.most
    → Way c (line_at boxes made (diverted text ++ more) i) (line_at (Lined text ∷ boxes) (made ++ diverted text) more (behind_bytes c.from (diverted text) i))
way-lined c boxes text made more i nested are fits few =
    let glyphs : List Glyph = glyphs_of text in
    let j : PageInput = behind_byte c.from 38 (behind_byte c.from 92 i) in
    let k : PageInput = behind_bytes c.from (escaped text) j in
    let box : again_box glyphs ≡ Lined text = ap Lined (printed-again text are) in
    let bytes : List ℕ = escaped text ++ 10 ∷ more in
    let long = length-behind text (Blanks 0 ∷ []) in
    let begun : Way c (line_at boxes made (92 ∷ 38 ∷ bytes) i) (within boxes (Blanks 0 ∷ []) made bytes j) =
    way-escape c (line_at boxes made bytes i) 38 bytes (Blanks 0) refl means-first_backslash means-no_width (omega arith) in
    let read : Way c (within boxes (Blanks 0 ∷ []) made bytes j) (within boxes glyphs made (10 ∷ more) k) =
    way-text c boxes (Blanks 0 ∷ []) made text (10 ∷ more) j are (omega (arith, fits)) in
    let ends : Way c (within boxes glyphs made (10 ∷ more) k)
    (line_at (Lined text ∷ boxes) (made ++ diverted text) more (behind_byte c.from 10 k)) =
    way-to c (within boxes glyphs made (10 ∷ more) k) _ _
    (ap (λ (b : Box). line_at (b ∷ boxes) (made ++ diverted_line b) more (behind_byte c.from 10 k)) box)
    (way-newline c boxes glyphs made more k nested (some-behind text (Blanks 0) []) (omega (arith, long, fits))
    (subst (λ (b : Box). length (made ++ diverted_line b) ≤ c.most) (sym box) few)) in
    let counted : behind_byte c.from 10 k ≡ behind_bytes c.from (diverted text) i =
    sym (behind_bytes-append c.from (escaped text) (10 ∷ []) j) in
    way-from c (line_at boxes made (diverted text ++ more) i) _ (92 ∷ 38 ∷ bytes)
    (ap (λ (bs : List ℕ). 92 ∷ 38 ∷ bs) (append_assoc (escaped text) (10 ∷ []) more))
    (way-to c (line_at boxes made (92 ∷ 38 ∷ bytes) i) _ _ (ap (line_at (Lined text ∷ boxes) (made ++ diverted text) more) counted)
    (way-then c (line_at boxes made (92 ∷ 38 ∷ bytes) i) (within boxes (Blanks 0 ∷ []) made bytes j) (line_at (Lined text ∷ boxes) (made ++ diverted text) more (behind_byte c.from 10 k)) begun
    (way-then c (within boxes (Blanks 0 ∷ []) made bytes j) (within boxes glyphs made (10 ∷ more) k) (line_at (Lined text ∷ boxes) (made ++ diverted text) more (behind_byte c.from 10 k)) read ends)))

-- a line, by its box
way-box : (c : Scene) (boxes : List Box) (b : Box) (made more : List ℕ) (i : PageInput) → IsNested c → Prints b
    → box_length b ≤ c.limits.line → length (made ++ diverted_line b) ≤ c.most
    → Way c (line_at boxes made (diverted_line b ++ more) i) (line_at (b ∷ boxes) (made ++ diverted_line b) more (behind_bytes c.from (diverted_line b) i))
way-box c boxes (Lined text) made more i nested prints fits few = way-lined c boxes text made more i nested prints fits few
way-box c boxes Empty made more i nested prints fits few = way-empty c boxes made more i nested few

-- all lines, behind others
pub way-boxes : (c : Scene) (old boxes : List Box) (made more : List ℕ) (i : PageInput) → IsNested c → AllPrint boxes
    → AllByRecursion (λ box. box_length box ≤ c.limits.line) boxes → length (made ++ diverted_lines boxes) ≤ c.most
    → Way c (line_at old made (diverted_lines boxes ++ more) i) (line_at (boxes ++ old) (made ++ diverted_lines boxes) more (behind_bytes c.from (diverted_lines boxes) i))
way-boxes c old [] made more i nested print fit few =
    way-to c (line_at old made more i) _ _ (ap (λ (text : List ℕ). line_at old text more i) (sym (append-nil made)))
    (way-none c (line_at old made more i))
way-boxes c old (b ∷ boxes) made more i nested print fit few =
    let front : List ℕ = diverted_lines boxes in
    let line : List ℕ = diverted_line b in
    let j : PageInput = behind_bytes c.from front i in
    let k : PageInput = behind_bytes c.from line j in
    let all : List ℕ = (made ++ front) ++ line in
    let long : all ≡ made ++ (front ++ line) = append_assoc made front line in
    let last : length all ≤ c.most = subst (λ (text : List ℕ). length text ≤ c.most) (sym long) few in
    way-from c (line_at old made ((front ++ line) ++ more) i) _ (front ++ (line ++ more)) (append_assoc front line more)
    (way-to c (line_at old made (front ++ (line ++ more)) i) _ _
    (ap (line_at (b ∷ boxes ++ old) all more) (sym (behind_bytes-append c.from front line i))
    ∙ ap (λ (text : List ℕ). line_at (b ∷ boxes ++ old) text more (behind_bytes c.from (front ++ line) i)) long)
    (way-then c (line_at old made (front ++ (line ++ more)) i) (line_at (boxes ++ old) (made ++ front) (line ++ more) j) (line_at (b ∷ boxes ++ old) all more k)
    (way-boxes c old boxes made (line ++ more) i nested print.1 fit.1 (omega (arith, last, length-append (made ++ front) line)))
    (way-box c (boxes ++ old) b (made ++ front) more j nested print.0 fit.0 last)))
