-- The parts of a definition's lines are copied, unit by unit, up to the newline.
use Rattle.std.proofs.Common.{◌≡◌, ℕ, ◌+◌, ◌≤◌, Bool, true, false, List, [], ◌∷◌, ◌++◌, length, Option, Some, None, refl, ap, sym, subst, ◌∙◌, arith, append_assoc, All, not, if◌then◌else◌, ◌==◌, eqb-true, append-nil, length-append}
use Rattle.std.proofs.lemmas.List.Elements.{All-cons, All-head, All-nil, All-tail, All-weaker}
use Rattle.input_model.specs.Arguments.{Arguments}
use Rattle.input_source.specs.Bytes.{backslash, is_dropped, newline}
use Rattle.input_escapes.specs.EscapeLaws.{copied, copied_escape}
use Rattle.input_escapes.specs.OpenEscape.{unit_bytes}
use Rattle.input_escapes.specs.declared.open_escape.CopyUnit.{CopyUnit}
use Rattle.input_escapes.specs.declared.open_escape.CopyUnit.TheVariants.{Byte, Kept}
use Rattle.roff_store.specs.Named.{Named}
use Rattle.roff_store.specs.Texts.{Entry}
use Rattle.law_escapes.proofs.PartRuns.{NoPart, OnBytes, OnText, PartsPath}
use Rattle.law_escapes.proofs.ReadTexts.{ByName, IsOfOneLine}
use Rattle.law_escapes.proofs.Ways.{way}
use Rattle.law_escapes.specs.Parts.{AreParts, BeginsWidth, Escape, IsCopiedPart, IsOnlyCopied, MayHave, MayMeasure, MayRead, MayWrite, OnlyCopied, Part, known_behind_part, rewritten}
use Rattle.law_reading.proofs.DefinedBytes.{Allows, Copies, Definition, Escaped, IsCopied, NoUnit, OneUnit, copies-mark, copies-text, defining, front_of-part, goes_on-unit, line_from-part, making, no_backslash, no_newline, onward-unit, other_way}
use Rattle.law_reading.proofs.DefinitionLaws.{copied-line}
use Rattle.law_reading.specs.ConditionLaws.{is_whole}
use Rattle.law_reading.specs.DefinitionLaws.{IsOfLine, is_end}
use Rattle.law_reading.specs.InterpolationLaws.{StandsForItself, text_named}
use Rattle.run_model.proofs.ItemsTaken.{not-second}
use Rattle.run_model.proofs.PlainRuns.{Here, Most, Path}
use Rattle.run_model.specs.Definitions.{end_mark, line_with, matched_behind}
use Rattle.run_model.specs.Reading.Items.{PageInput}
use Rattle.run_model.specs.Registers.{Known}
use Rattle.run_model.specs.declared.definition.DefinitionLine.TheVariants.{IsText, MayBeLast}
use Rattle.run_model.specs.declared.line_state.LineState.TheVariants.{Collecting}
use Rattle.run_model.specs.declared.purpose.Purpose.TheVariants.{Defining}

-- what was copied: all of it is text, or its end is a part of the mark, and what is still to be copied of the line doesn't make it
-- the line that ends the definition
pub data SoFar (mark : List ℕ) (ahead : List ℕ) : List ℕ → Option ℕ → List ℕ → Type 0 where
  InText : (text : List ℕ) → SoFar mark ahead text None text
  AtMark : (text done todo : List ℕ) → mark ≡ done ++ todo → All StandsForItself todo → is_end todo ahead ≡ false
      → SoFar mark ahead text (Some (length done)) (text ++ done)

-- no more is text than was copied
length-SoFar : (mark ahead text all : List ℕ) (matched : Option ℕ) → SoFar mark ahead text matched all → length text ≤ length all
length-SoFar mark ahead _ _ _ (InText text) = omega arith
length-SoFar mark ahead _ _ _ (AtMark text done todo is stand goes_on) = omega (arith, length-append text done)

-- a unit more is copied
record CopiesOn (names : Named Entry) (d : Definition) (a : Arguments) (unit : CopyUnit) (ahead text : List ℕ) (matched : Option ℕ) (all : List ℕ) : Type 0 where
  pub there : List ℕ
  pub m : Option ℕ
  copies : Copies names d a unit text matched there m
  pub so_far : SoFar (end_mark d.end) ahead there m (all ++ unit_bytes unit)

-- where the line isn't the last one, all of it is text
copies-other : (names : Named Entry) (d : Definition) (a : Arguments) (unit : CopyUnit) (ahead text done todo : List ℕ) → matched_behind unit ≡ None → end_mark d.end ≡ done ++ todo
    → line_with todo (length done) (unit_bytes unit) ≡ IsText → CopiesOn names d a unit ahead text (Some (length done)) (text ++ done)
copies-other names d a unit ahead text done todo behind is is_text =
    let there : List ℕ = text ++ (done ++ unit_bytes unit) in
    record {
      there = there;
      m = None;
      copies =
          subst (λ (m : Option ℕ). Copies names d a unit text (Some (length done)) there m) behind
          (copies-text names d a unit text done (Some (length done)) (front_of-part (end_mark d.end) done todo is) (line_from-part (end_mark d.end) done todo unit is ∙ is_text));
      so_far = subst (SoFar (end_mark d.end) ahead there None) (sym (append_assoc text done (unit_bytes unit))) (InText there);
    }

-- by whether a byte is the next one of the mark
copies-compared : (names : Named Entry) (d : Definition) (a : Arguments) (b c : ℕ) (ahead text done todo : List ℕ) (is_same : Bool) → (b == c) ≡ is_same → matched_behind (Byte b) ≡ None
    → end_mark d.end ≡ done ++ c ∷ todo → All StandsForItself (c ∷ todo) → (if is_same then is_end todo ahead else false) ≡ false
    → CopiesOn names d a (Byte b) ahead text (Some (length done)) (text ++ done)
copies-compared names d a b c ahead text done todo true same behind is stand goes_on =
    let next : List ℕ = done ++ c ∷ [] in
    let as_long : length next ≡ length done + 1 = length-append done (c ∷ []) in
    let all : text ++ next ≡ (text ++ done) ++ b ∷ [] =
    sym (append_assoc text done (c ∷ [])) ∙ ap (λ (e : ℕ). (text ++ done) ++ e ∷ []) (sym (eqb-true b c same)) in
    record {
      there = text;
      m = Some (length done + 1);
      copies =
          copies-mark names d a (Byte b) text (length done) (length done + 1)
          (line_from-part (end_mark d.end) done (c ∷ todo) (Byte b) is ∙ ap (λ (x : Bool). if x then MayBeLast (length done + 1) else IsText) same);
      so_far =
          subst (λ (n : ℕ). SoFar (end_mark d.end) ahead text (Some n) ((text ++ done) ++ b ∷ [])) as_long
          (subst (SoFar (end_mark d.end) ahead text (Some (length next))) all
          (AtMark text next todo (is ∙ sym (append_assoc done (c ∷ []) todo)) (All-tail StandsForItself c todo stand) goes_on));
    }
copies-compared names d a b c ahead text done todo false same behind is stand goes_on =
    copies-other names d a (Byte b) ahead text done (c ∷ todo) behind is (ap (λ (x : Bool). if x then MayBeLast (length done + 1) else IsText) same)

copies-on : (names : Named Entry) (d : Definition) (a : Arguments) (unit : CopyUnit) (ahead text : List ℕ) (matched : Option ℕ) (all : List ℕ) → matched_behind unit ≡ None
    → SoFar (end_mark d.end) (unit_bytes unit ++ ahead) text matched all → CopiesOn names d a unit ahead text matched all
copies-on names d a unit ahead _ _ _ behind (InText text) = record {
  there = text ++ unit_bytes unit;
  m = None;
  copies = subst (λ (m : Option ℕ). Copies names d a unit text None (text ++ unit_bytes unit) m) behind (copies-text names d a unit text [] None refl refl);
  so_far = InText (text ++ unit_bytes unit);
}
copies-on names d a unit ahead _ _ _ behind (AtMark text done [] is stand goes_on) =
    copies-other names d a unit ahead text done [] behind is (goes_on-unit unit (length done) ahead goes_on)
copies-on names d a (Kept b) ahead _ _ _ behind (AtMark text done (c ∷ todo) is stand goes_on) =
    copies-other names d a (Kept b) ahead text done (c ∷ todo) behind is
    (ap (λ (x : Bool). if x then line_with todo (length done + 1) (b ∷ []) else IsText) (other_way backslash c (no_backslash c (All-head StandsForItself c todo stand))))
copies-on names d a (Byte b) ahead _ _ _ behind (AtMark text done (c ∷ todo) is stand goes_on) =
    copies-compared names d a b c ahead text done todo (b == c) refl behind is stand goes_on

-- bytes are copied
record ReadsCopied (most : Most) (names : Named Entry) (d : Definition) (a : Arguments) (ahead text : List ℕ) (matched : Option ℕ) (all line copy : List ℕ) : Type 0 where
  pub there : List ℕ
  pub m : Option ℕ
  pub path : Path most names (defining d a text matched) line (defining d a there m)
  pub so_far : SoFar (end_mark d.end) ahead there m (all ++ copy)

reads-copied : (most : Most) (names : Named Entry) (d : Definition) (a : Arguments) (bound : ℕ) (ahead text : List ℕ) (matched : Option ℕ) (all line copy : List ℕ) → Allows most d a bound
    → IsCopied line copy → SoFar (end_mark d.end) (copy ++ ahead) text matched all → length all + length copy ≤ bound → ReadsCopied most names d a ahead text matched all line copy
reads-copied most names d a bound ahead text matched all _ _ allows NoUnit so_far few = record {
  there = text;
  m = matched;
  path = Here (defining d a text matched);
  so_far = subst (SoFar (end_mark d.end) ahead text matched) (sym (append-nil all)) so_far;
}
reads-copied most names d a bound ahead text matched all _ _ allows (OneUnit unit written line copy writes behind others) so_far few =
    let bytes : List ℕ = unit_bytes unit in
    let sizes : length (bytes ++ copy) ≡ length bytes + length copy = length-append bytes copy in
    let next : List ℕ = all ++ bytes in
    let more : length next ≡ length all + length bytes = length-append all bytes in
    let one =
    copies-on names d a unit (copy ++ ahead) text matched all behind
    (subst (λ (rest : List ℕ). SoFar (end_mark d.end) rest text matched all) (append_assoc bytes copy ahead) so_far) in
    let rest = reads-copied most names d a bound ahead one.there one.m next line copy allows others one.so_far (omega (arith, few, sizes, more)) in
    record {
      there = rest.there;
      m = rest.m;
      path =
          onward-unit most names d a bound text one.there matched one.m unit written line (defining d a rest.there rest.m) allows
          (omega (arith, few, length-SoFar (end_mark d.end) ((bytes ++ copy) ++ ahead) text all matched so_far))
          (omega (arith, few, sizes, more, length-SoFar (end_mark d.end) (copy ++ ahead) one.there next one.m one.so_far)) writes one.copies rest.path;
      so_far = subst (SoFar (end_mark d.end) ahead rest.there rest.m) (append_assoc all bytes copy) rest.so_far;
    }

-- texts are copied one behind another
copied-two : (is : Bool) (b c : ℕ) (front behind : List ℕ) → (if is then is_whole front else is_whole (c ∷ front)) ≡ true
    → (is_whole front ≡ true → copied (front ++ behind) ≡ copied front ++ copied behind)
    → (is_whole (c ∷ front) ≡ true → copied (c ∷ front ++ behind) ≡ copied (c ∷ front) ++ copied behind)
    → (if is then copied_escape c ++ copied (front ++ behind) else b ∷ copied (c ∷ front ++ behind)) ≡ (if is then copied_escape c ++ copied front else b ∷ copied (c ∷ front)) ++ copied behind
copied-two true b c front behind whole others others_too =
    ap (λ (rest : List ℕ). copied_escape c ++ rest) (others whole) ∙ sym (append_assoc (copied_escape c) (copied front) (copied behind))
copied-two false b c front behind whole others others_too = ap (λ (rest : List ℕ). b ∷ rest) (others_too whole)

not-true : (c : Bool) → not c ≡ true → c ≡ false
not-true true is = absurd (cc)
not-true false is = refl

copied-plain : (b : ℕ) (behind : List ℕ) → (b == backslash) ≡ false → copied (b ∷ behind) ≡ b ∷ copied behind
copied-plain b [] plain = refl
copied-plain b (c ∷ behind) plain = ap (λ (x : Bool). if x then copied_escape c ++ copied behind else b ∷ copied (c ∷ behind)) plain

copied-append : (front behind : List ℕ) → is_whole front ≡ true → copied (front ++ behind) ≡ copied front ++ copied behind
copied-append [] behind whole = refl
copied-append (b ∷ []) behind whole = copied-plain b behind (not-true (b == backslash) whole)
copied-append (b ∷ c ∷ front) behind whole =
    copied-two (b == backslash) b c front behind whole (copied-append front behind) (copied-append (c ∷ front) behind)

-- bytes that are copied end no line
pub copied-of_line : (part : List ℕ) → IsOnlyCopied part → IsOfOneLine part
copied-of_line part is =
    All-weaker IsOfLine (λ b. (b == newline) ≡ false) (λ b of_line. not-second (is_dropped b) (b == newline) of_line) part is.bytes

-- a part that is copied ends no line, is whole, and its units don't end it
pub part-of_line : (part : List ℕ) → IsCopiedPart part → IsOfOneLine part
part-of_line _ (OnlyCopied part is) = copied-of_line part is
part-of_line _ BeginsWidth = All-cons (λ b. (b == newline) ≡ false) backslash (119 ∷ []) refl (All-cons (λ b. (b == newline) ≡ false) 119 [] refl (All-nil (λ b. (b == newline) ≡ false)))

whole-part : (part : List ℕ) → IsCopiedPart part → is_whole part ≡ true
whole-part _ (OnlyCopied part is) = is.whole
whole-part _ BeginsWidth = refl

pub copied-part : (part : List ℕ) → IsCopiedPart part → IsCopied part (copied part)
copied-part _ (OnlyCopied part is) = copied-line part is.bytes is.only_copied is.whole
copied-part _ BeginsWidth = OneUnit (Kept 119) (backslash ∷ 119 ∷ []) [] [] (Escaped (Kept 119) 119 refl refl) refl NoUnit

-- and what stands behind it is copied behind it
pub copied-behind : (part behind : List ℕ) → IsCopiedPart part → copied (part ++ behind) ≡ copied part ++ copied behind
copied-behind part behind is = copied-append part behind (whole-part part is)

-- the parts of a line are copied, one behind another
pub record ReadsCopies (j : PageInput) (most : Most) (names : Named Entry) (d : Definition) (a : Arguments) (k : Known) (text : List ℕ) (matched : Option ℕ) (all : List ℕ) (parts : List Part) : Type 0 where
  pub there : List ℕ
  pub m : Option ℕ
  pub path : PartsPath j most names k (defining d a text matched) parts (defining d a there m)
  pub so_far : SoFar (end_mark d.end) [] there m (all ++ copied (rewritten k j parts))

-- some of the bytes of the first one, and the others
reads-copy : (k : Known) (j : PageInput) (most : Most) (names : Named Entry) (d : Definition) (a : Arguments) (bound : ℕ) (text : List ℕ) (matched : Option ℕ) (all : List ℕ) (part : Part) (parts : List Part)
    → Allows most d a bound → MayHave false IsCopiedPart k j part → SoFar (end_mark d.end) (copied (rewritten k j (part ∷ parts))) text matched all
    → length all + length (copied (rewritten k j (part ∷ parts))) ≤ bound
    → (let k1 : Known = known_behind_part k part in
    (there : List ℕ) (m : Option ℕ) (next : List ℕ) → SoFar (end_mark d.end) (copied (rewritten k1 j parts)) there m next
    → length next + length (copied (rewritten k1 j parts)) ≤ bound → ReadsCopies j most names d a k1 there m next parts)
    → ReadsCopies j most names d a k text matched all (part ∷ parts)
reads-copy k j most names d a bound text matched all _ parts allows (MayWrite bytes is) so_far few reads =
    let others : List ℕ = copied (rewritten k j parts) in
    let same : copied (bytes ++ rewritten k j parts) ≡ copied bytes ++ others = copied-behind bytes (rewritten k j parts) is in
    let sizes : length (copied (bytes ++ rewritten k j parts)) ≡ length (copied bytes) + length others = ap length same ∙ length-append (copied bytes) others in
    let one =
    reads-copied most names d a bound others text matched all bytes (copied bytes) allows (copied-part bytes is)
    (subst (λ (rest : List ℕ). SoFar (end_mark d.end) rest text matched all) same so_far) (omega (arith, few, sizes)) in
    let next : List ℕ = all ++ copied bytes in
    let rest = reads one.there one.m next one.so_far (omega (arith, few, sizes, length-append all (copied bytes))) in
    record {
      there = rest.there;
      m = rest.m;
      path =
          OnBytes k (defining d a text matched) (defining d a one.there one.m) (defining d a rest.there rest.m) bytes parts
          (part-of_line bytes is) (way most names (defining d a text matched) (defining d a one.there one.m) bytes one.path) rest.path;
      so_far = subst (SoFar (end_mark d.end) [] rest.there rest.m) (append_assoc all (copied bytes) others ∙ ap (λ (copy : List ℕ). all ++ copy) (sym same)) rest.so_far;
    }
reads-copy k j most names d a bound text matched all _ parts allows (MayRead purpose name bytes is_escape quiet is) so_far few reads =
    let part : Part = Escape purpose name bytes in
    let own : List ℕ = text_named k j purpose name in
    let behind : List ℕ = rewritten (known_behind_part k part) j parts in
    let others : List ℕ = copied behind in
    let same : copied (own ++ behind) ≡ copied own ++ others = copied-behind own behind is in
    let sizes : length (copied (own ++ behind)) ≡ length (copied own) + length others = ap length same ∙ length-append (copied own) others in
    let one =
    reads-copied most names d a bound others text matched all own (copied own) allows (copied-part own is)
    (subst (λ (rest : List ℕ). SoFar (end_mark d.end) rest text matched all) same so_far) (omega (arith, few, sizes)) in
    let next : List ℕ = all ++ copied own in
    let rest = reads one.there one.m next one.so_far (omega (arith, few, sizes, length-append all (copied own))) in
    record {
      there = rest.there;
      m = rest.m;
      path =
          OnText k (Collecting (Defining d.name d.appends d.end matched)) (Collecting (Defining d.name d.appends d.end one.m)) a a (making d.name d.before d.others text) (making d.name d.before d.others one.there)
          (defining d a rest.there rest.m) part parts refl (ByName purpose name bytes refl is_escape quiet)
          (way most names (defining d a text matched) (defining d a one.there one.m) own one.path) rest.path;
      so_far = subst (SoFar (end_mark d.end) [] rest.there rest.m) (append_assoc all (copied own) others ∙ ap (λ (copy : List ℕ). all ++ copy) (sym same)) rest.so_far;
    }
reads-copy k j most names d a bound text matched all _ parts allows (MayMeasure delimiter measured measures may plain) so_far few reads = absurd (cc)

pub reads-copies : (j : PageInput) (most : Most) (names : Named Entry) (d : Definition) (a : Arguments) (bound : ℕ) (k : Known) (text : List ℕ) (matched : Option ℕ) (all : List ℕ) (parts : List Part)
    → Allows most d a bound → AreParts false IsCopiedPart k j parts → SoFar (end_mark d.end) (copied (rewritten k j parts)) text matched all
    → length all + length (copied (rewritten k j parts)) ≤ bound → ReadsCopies j most names d a k text matched all parts
reads-copies j most names d a bound k text matched all [] allows may so_far few = record {
  there = text;
  m = matched;
  path = NoPart k (defining d a text matched);
  so_far = subst (SoFar (end_mark d.end) [] text matched) (sym (append-nil all)) so_far;
}
reads-copies j most names d a bound k text matched all (part ∷ parts) allows may so_far few =
    reads-copy k j most names d a bound text matched all part parts allows may.0 so_far few
    (λ there m next. reads-copies j most names d a bound (known_behind_part k part) there m next parts allows may.1)

-- the newline of the line is copied too, and the next line begins
pub copies-newline : (names : Named Entry) (d : Definition) (a : Arguments) (text : List ℕ) (matched : Option ℕ) (all : List ℕ) → SoFar (end_mark d.end) [] text matched all
    → Copies names d a (Byte newline) text matched (all ++ newline ∷ []) (Some 0)
copies-newline names d a _ _ _ (InText text) = copies-text names d a (Byte newline) text [] None refl refl
copies-newline names d a _ _ _ (AtMark text done [] is stand goes_on) = absurd (cc)
copies-newline names d a _ _ _ (AtMark text done (c ∷ todo) is stand goes_on) =
    let other : (newline == c) ≡ false = other_way newline c (no_newline c (All-head StandsForItself c todo stand)) in
    subst (λ (there : List ℕ). Copies names d a (Byte newline) text (Some (length done)) there (Some 0)) (sym (append_assoc text done (newline ∷ [])))
    (copies-text names d a (Byte newline) text done (Some (length done)) (front_of-part (end_mark d.end) done (c ∷ todo) is)
    (line_from-part (end_mark d.end) done (c ∷ todo) (Byte newline) is ∙ ap (λ (x : Bool). if x then MayBeLast (length done + 1) else IsText) other))
