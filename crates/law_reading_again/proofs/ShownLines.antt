-- The bytes of lines, as they are printed.
use Rattle.std.proofs.Common.{◌≡◌, ℕ, zero, suc, ◌+◌, ◌-◌, ◌<◌, Bool, true, false, List, [], ◌∷◌, ◌++◌, reverse, Option, Some, None, refl, sym, ap, subst, ◌∙◌, arith, ◌==◌, ◌&&◌, ◌||◌, IfSome, not, nat_le, nat_lt, replicate, if◌then◌else◌, le-ltb, leb-false}
use Rattle.std.specs.List.{AllByRecursion, flat_map}
use Rattle.std.proofs.lemmas.Bool.{not_from_false, or_from, or_parts}
use Rattle.std.proofs.lemmas.List.{reverse-append}
use Rattle.page_model.specs.Columns.{added_columns, printed, spaces, spread}
use Rattle.page_model.specs.Events.{History, settings_after}
use Rattle.page_model.specs.Fitting.{Word, fits, gap_text, last_line, line_text, placed, word_text}
use Rattle.page_model.specs.Glyphs.{glyph_blank, glyph_text}
use Rattle.page_model.specs.Lines.{Finished, empty_line, finished_in, line_laid_out, pending_line}
use Rattle.page_model.specs.Settings.{fills}
use Rattle.page_model.specs.Words.{has_open_word, is_empty, open_glyphs, open_word, words}
use Rattle.page_model.specs.declared.event.Event.{Event}
use Rattle.page_model.specs.declared.event.Event.TheVariants.{Print, Tab, FieldEnd, WordEnd, Gap, LineEnd, Count, Break, Interrupt, Resume, Set}
use Rattle.page_model.specs.declared.glyph.Glyph.{Glyph}
use Rattle.page_model.specs.declared.glyph.Glyph.TheVariants.{Printed, Blanks}
use Rattle.law_reading_again.specs.Again.{is_printable}
use Rattle.law_reading_again.specs.Shown.{AllShow, IsPrintable, IsShown}

-- of lists one behind another
pub all-append : {A : Type 0} (P : A → Type 0) (xs ys : List A) → AllByRecursion P xs → AllByRecursion P ys → AllByRecursion P (xs ++ ys)
all-append P [] ys first others = others
all-append P (x ∷ xs) ys first others = (first.0, all-append P xs ys first.1 others)

all-reverse : {A : Type 0} (P : A → Type 0) (xs : List A) → AllByRecursion P xs → AllByRecursion P (reverse xs)
all-reverse P [] are = tt
all-reverse P (x ∷ xs) are =
    subst (AllByRecursion P) (sym (reverse-append (x ∷ []) xs)) (all-append P (reverse xs) (x ∷ []) (all-reverse P xs are.1) (are.0, tt))

pub all-replicate : {A : Type 0} (P : A → Type 0) (n : ℕ) (x : A) → P x → AllByRecursion P (replicate n x)
all-replicate P zero x is = tt
all-replicate P (suc n) x is = (is, all-replicate P n x is)

-- of two, whichever
pub either : {A : Type 0} (P : A → Type 0) (c : Bool) (x y : A) → P x → P y → P (if c then x else y)
either P true x y first second = first
either P false x y first second = second

-- the glyphs of the open word
open-shown : (h : History) → AllShow h → AllByRecursion IsShown (open_glyphs h)
open-shown [] show = tt
open-shown (Print g ∷ h) show = (show.0, open-shown h show.1)
open-shown (Tab ∷ h) show = (tt, open-shown h show.1)
open-shown (WordEnd ∷ h) show = tt
open-shown (FieldEnd ∷ h) show = open-shown h show.1
open-shown (Gap n ∷ h) show = open-shown h show.1
open-shown (LineEnd ∷ h) show = open-shown h show.1
open-shown (Count ∷ h) show = open-shown h show.1
open-shown (Break ∷ h) show = open-shown h show.1
open-shown (Interrupt ∷ h) show = open-shown h show.1
open-shown (Resume ∷ h) show = open-shown h show.1
open-shown (Set p ∷ h) show = open-shown h show.1

-- and of the words
abbrev WordShows : Word → Type 0
WordShows w = AllByRecursion IsShown w.glyphs

abbrev WordsShow : List Word → Type 0
WordsShow ws = AllByRecursion WordShows ws

words-shown : (h : History) → AllShow h → WordsShow (words h)
words-shown [] show = tt
words-shown (WordEnd ∷ h) show =
    let others : WordsShow (words h) = words-shown h show.1 in
    either WordsShow (has_open_word h) (open_word h ∷ words h) (words h)
    (all-reverse IsShown (open_glyphs h) (open-shown h show.1), others) others
words-shown (LineEnd ∷ h) show = either WordsShow (fills (settings_after h)) (words h) [] (words-shown h show.1) tt
words-shown (Break ∷ h) show = tt
words-shown (Print g ∷ h) show = words-shown h show.1
words-shown (Tab ∷ h) show = words-shown h show.1
words-shown (FieldEnd ∷ h) show = words-shown h show.1
words-shown (Gap n ∷ h) show = words-shown h show.1
words-shown (Count ∷ h) show = words-shown h show.1
words-shown (Interrupt ∷ h) show = words-shown h show.1
words-shown (Resume ∷ h) show = words-shown h show.1
words-shown (Set p ∷ h) show = words-shown h show.1

placed-shown : (line : List Word) (w : Word) → WordsShow line → WordShows w → WordsShow (placed line w)
placed-shown [] w show is = (is, tt)
placed-shown (v ∷ line) w show is = either WordsShow (fits (v ∷ line) w) (w ∷ v ∷ line) (w ∷ []) (is, show) (is, tt)

last_line-shown : (ws : List Word) → WordsShow ws → WordsShow (last_line ws)
last_line-shown [] show = tt
last_line-shown (w ∷ ws) show = placed-shown (last_line ws) w (last_line-shown ws show.1) show.0

-- a byte that a line keeps: one of those for blanks, or one that is printed as it is
abbrev is_kept : ℕ → Bool
is_kept b = b == 0 || (b == 1 || is_printable b)

abbrev IsKept : ℕ → Type 0
IsKept b = is_kept b ≡ true

abbrev AllKept : List ℕ → Type 0
AllKept text = AllByRecursion IsKept text

-- what a glyph leaves
printable-above : (b : ℕ) → 32 < b → (b == 127) ≡ false → is_printable b ≡ true
printable-above b is_above no_del =
    not_from_false (nat_lt b 32 || b == 127) (or_from (nat_lt b 32) (b == 127) (le-ltb b 32 (omega (arith, is_above))) no_del)

kept-any : (zero one : Bool) → (zero || (one || true)) ≡ true
kept-any true one = refl
kept-any false true = refl
kept-any false false = refl

kept-printable : (b : ℕ) → is_printable b ≡ true → IsKept b
kept-printable b is = ap (λ (c : Bool). b == 0 || (b == 1 || c)) is ∙ kept-any (b == 0) (b == 1)

kept-byte : (low : Bool) (b : ℕ) → nat_le b 32 ≡ low → (b == 127) ≡ false → IsKept (if low then glyph_blank else b)
kept-byte true b is no_del = refl
kept-byte false b is no_del = kept-printable b (printable-above b (leb-false b 32 is) no_del)

kept-glyph : (g : Glyph) → IsShown g → AllKept (glyph_text g)
kept-glyph (Printed b) show = (kept-byte (nat_le b 32) b refl show, tt)
kept-glyph (Blanks n) show = all-replicate IsKept n glyph_blank refl

kept-glyphs : (gs : List Glyph) → AllByRecursion IsShown gs → AllKept (flat_map glyph_text gs)
kept-glyphs [] show = tt
kept-glyphs (g ∷ gs) show = all-append IsKept (glyph_text g) (flat_map glyph_text gs) (kept-glyph g show.0) (kept-glyphs gs show.1)

kept-gap : (n : ℕ) → AllKept (gap_text n)
kept-gap n = either AllKept (n == 0) [] (32 ∷ replicate (n - 1) 1) tt (refl, all-replicate IsKept (n - 1) 1 refl)

kept-line : (ws : List Word) → WordsShow ws → AllKept (line_text ws)
kept-line [] show = tt
kept-line (w ∷ []) show = kept-glyphs w.glyphs show.0
kept-line (w ∷ v ∷ ws) show =
    all-append IsKept (line_text (v ∷ ws)) (gap_text w.gap ++ word_text w) (kept-line (v ∷ ws) show.1)
    (all-append IsKept (gap_text w.gap) (word_text w) (kept-gap w.gap) (kept-glyphs w.glyphs show.0))

-- blanks are printed as blanks, and the others as they are
printable-spaces : (n : ℕ) → IsPrintable (spaces n)
printable-spaces n = all-replicate (λ b. is_printable b ≡ true) n 32 refl

printable-kept : (b : ℕ) → IsKept b → (b == 1 || b == 0) ≡ false → is_printable b ≡ true
printable-kept b kept no_blank =
    let none = or_parts (b == 1) (b == 0) no_blank in
    sym (ap (λ (c : Bool). c || (b == 1 || is_printable b)) none.1 ∙ ap (λ (c : Bool). c || is_printable b) none.0) ∙ kept

printable-other : (blank : Bool) (b : ℕ) (rest : List ℕ) → (b == 1 || b == 0) ≡ blank → IsKept b → IsPrintable rest
    → IsPrintable (if blank then 32 ∷ rest else b ∷ rest)
printable-other true b rest is kept are = (refl, are)
printable-other false b rest is kept are = (printable-kept b kept is, are)

printable-spread : (spare gaps i : ℕ) (text : List ℕ) → AllKept text → IsPrintable (spread spare gaps i text)
printable-spread spare gaps i [] kept = tt
printable-spread spare gaps i (b ∷ text) kept =
    let more : ℕ = added_columns spare gaps (i + 1) - added_columns spare gaps i in
    let behind : List ℕ = spread spare gaps (i + 1) text in
    let rest : List ℕ = spread spare gaps i text in
    either IsPrintable (b == 32) (32 ∷ (spaces more ++ behind)) (if b == 1 || b == 0 then 32 ∷ rest else b ∷ rest)
    (refl, all-append (λ b. is_printable b ≡ true) (spaces more) behind (printable-spaces more) (printable-spread spare gaps (i + 1) text kept.1))
    (printable-other (b == 1 || b == 0) b rest refl kept.0 (printable-spread spare gaps i text kept.1))

printable-line : (line : Finished) → AllKept line.text → IsPrintable (printed line)
printable-line line kept =
    all-append (λ b. is_printable b ≡ true) (spaces line.lead) (spread line.spare line.gaps 0 line.text) (printable-spaces line.lead)
    (printable-spread line.spare line.gaps 0 line.text kept)

-- a line that may be finished
abbrev pub LinePrints : Option Finished → Type 0
LinePrints o = IfSome o (λ (line : Finished). IsPrintable (printed line))

prints-pending : (h : History) (by_word : Bool) → AllShow h → LinePrints (Some (line_laid_out (settings_after h) by_word (pending_line h)))
prints-pending h by_word show =
    printable-line (line_laid_out (settings_after h) by_word (pending_line h))
    (kept-line (pending_line h) (last_line-shown (words h) (words-shown h show)))

-- told without fields
pub plain_lines_print : (h : History) (e : Event) → AllShow h → LinePrints (finished_in h e)
plain_lines_print h WordEnd show =
    either LinePrints (has_open_word h && not (is_empty (words h)) && not (fits (pending_line h) (open_word h)))
    (Some (line_laid_out (settings_after h) true (pending_line h))) None (prints-pending h true show) tt
plain_lines_print h LineEnd show =
    let s = settings_after h in
    let none : Option Finished = if s.filling then None else Some (empty_line s) in
    let some : Option Finished = Some (line_laid_out s false (pending_line h)) in
    either LinePrints (fills s) None (if is_empty (words h) then none else some) tt
    (either LinePrints (is_empty (words h)) none some (either LinePrints s.filling None (Some (empty_line s)) tt tt) (prints-pending h false show))
plain_lines_print h Break show =
    either LinePrints (is_empty (words h)) None (Some (line_laid_out (settings_after h) false (pending_line h))) tt
    (prints-pending h false show)
plain_lines_print h (Print g) show = tt
plain_lines_print h Tab show = tt
plain_lines_print h FieldEnd show = tt
plain_lines_print h (Gap n) show = tt
plain_lines_print h Count show = tt
plain_lines_print h Interrupt show = tt
plain_lines_print h Resume show = tt
plain_lines_print h (Set p) show = tt
