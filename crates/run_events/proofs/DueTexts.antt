-- What a composer tells of the text that is due is what the definition puts behind the text of the innermost diversion.
use Rattle.std.proofs.Common.{◌∙◌, ◌≡◌, ◌<◌, ◌-◌, ℕ, zero, suc, ◌+◌, Bool, true, false, List, [], ◌∷◌, ◌++◌, length, replicate, Option, Some, None, ap, append-nil, arith, refl, sym, if◌then◌else◌, append_assoc}
use Rattle.std.proofs.lemmas.List.{length-map, length-replicate}
use Rattle.roff_num.specs.RegisterText.{register_text}
use Rattle.roff_num.specs.declared.format.Format.{Format}
use Rattle.page_model.specs.Columns.{printed}
use Rattle.page_model.specs.Diverted.{diverted}
use Rattle.page_model.specs.DivertedText.{diverted_lines, diverted_text}
use Rattle.page_model.specs.DueTexts.{TextDue, Gets, bytes_due, text_due}
use Rattle.page_model.specs.Happenings.{Happening, Does, Places, Titles}
use Rattle.page_model.specs.Layout.{Box, Diversion, Empty, Layout, Lined}
use Rattle.page_model.specs.Lines.{Finished}
use Rattle.page_model.specs.Puts.{Put, appended, boxes_put, blank_lines, needed, puts, within_stop}
use Rattle.page_model.specs.Stops.{Target, is_diverted, target}
use Rattle.page_model.specs.Titles.{Title as PlacedTitle, title_text}
use Rattle.page_model.specs.Turning.{behind_put, in_innermost, next_behind, turned_unless, unput, with_boxes, without_put}
use Rattle.page_model.specs.declared.layout_event.LayoutEvent.{LayoutEvent}
use Rattle.page_model.specs.declared.layout_event.LayoutEvent.TheVariants.{Eject, EjectLast, EjectOn, EjectTo, Need, Space}
use Rattle.roff_pages.specs.Pages.Stands.{StandsAs, kept_diversion}
use Rattle.run_state.specs.Composer.Due.{due_told, line_laid, text_told, title_laid}
use Rattle.run_state.specs.declared.composer.Composer.{Composer as ComposerOf}
use Rattle.run_state.specs.declared.due_text.DueText.{DueText}
use Rattle.run_state.specs.declared.due_text.DueText.TheVariants.{BlankLines as BlankDue}
use Rattle.run_state.specs.Composer.Standing.{StandFor}
use Rattle.roff_num.specs.declared.limits.Limits.{Limits}
use Rattle.run_model.specs.Layouts.{happens, laid_out, layout_of}
use Rattle.run_model.specs.PageEvents.{PageHistory, PastEvent}
use Rattle.run_events.specs.Formatter.Setting.{may_put}
use Rattle.run_model.specs.Registers.{AllRegisters}
use Rattle.run_model.specs.TitleTexts.{TitleText, TitleTold}
use Rattle.run_model.specs.Titles.{title_told}
use Rattle.run_model.specs.declared.title.WhichTitle.{WhichTitle}
use Rattle.run_events.specs.declared.formatter.Formatter.{Formatter}
use Rattle.run_events.specs.Formatter.Paging.{blank_behind, line_due}
use Rattle.run_events.specs.Formatter.Titling.{title_at, title_due}

-- a diverted happening changes a text, and the composer tells so
pub record TellsText (y : Happening) (L : Layout) (es : ComposerOf) (rs : AllRegisters) : Type 0 where
  pub due : TextDue
  pub so : text_due y L ≡ Some due
  pub told : due_told es rs ≡ Some due

-- blank lines behind boxes are newlines behind their text
next_newline : (n : ℕ) → let newline : List ℕ = 10 ∷ [] in replicate n 10 ++ newline ≡ 10 ∷ replicate n 10
next_newline zero = refl
next_newline (suc n) = ap (λ (bytes : List ℕ). 10 ∷ bytes) (next_newline n)

blank_text : (n : ℕ) (boxes : List Box) → diverted_lines (replicate n Empty ++ boxes) ≡ diverted_lines boxes ++ replicate n 10
blank_text zero boxes = sym (append-nil (diverted_lines boxes))
blank_text (suc n) boxes =
    ap (λ (bytes : List ℕ). bytes ++ 10 ∷ []) (blank_text n boxes)
    ∙ append_assoc (diverted_lines boxes) (replicate n 10) (10 ∷ [])
    ∙ ap (λ (bytes : List ℕ). diverted_lines boxes ++ bytes) (next_newline n)

-- the text of what is diverted
text_of_boxes : (x : Happening) (L : Layout) → is_diverted x L ≡ true → diverted_text x L ≡ diverted_lines (appended x L)
text_of_boxes x L is = ap (λ (b : Bool). if b then diverted_lines (appended x L) else []) is

-- as many diversions are open in code
pub same_diversions : (L : Layout) (es : ComposerOf) → StandsAs L es.pages → length es.pages.diversions ≡ length L.diversions
same_diversions L es stands = ap length stands.diversions ∙ length-map L.diversions kept_diversion

-- bytes that are due for the innermost of so many diversions
due_of : (ds : List Diversion) (es : ComposerOf) (bytes told : List ℕ) → length es.pages.diversions ≡ length ds → told ≡ bytes
    → Some (Gets (length es.pages.diversions - 1) told) ≡ Some (Gets (length ds - 1) bytes)
due_of ds es bytes told count is =
    ap (λ (n : ℕ). Some (Gets (n - 1) told)) count ∙ ap (λ (bytes : List ℕ). Some (Gets (length ds - 1) bytes)) is

-- of a line
pub line_tells : (line : Finished) (L : Layout) (es : ComposerOf) (rs : AllRegisters) → is_diverted (Places line) L ≡ true
    → es.environments.in_force.lines.finished ≡ line.text → length es.pages.diversions ≡ length L.diversions → es.due.text ≡ line_due line L
    → TellsText (Places line) L es rs
line_tells line L es rs diverts kept count is =
    let n : ℕ = blank_behind line L in
    let bytes : List ℕ = diverted (printed line) ++ replicate n 10 in
    let made : List ℕ → List ℕ = λ text. diverted (printed (line_laid text line.lead line.spare line.gaps)) ++ replicate n 10 in
    record {
      due = Gets (length L.diversions - 1) bytes;
      so = ap (bytes_due L.diversions) (text_of_boxes (Places line) L diverts ∙ blank_text n (Lined (printed line) ∷ []));
      told = ap (λ (text : DueText). text_told text es rs) is ∙ due_of L.diversions es bytes (made es.environments.in_force.lines.finished) count (ap made kept);
    }

-- nothing is spaced behind a title
unspaced : (place : ℕ) (stop : Option ℕ) → within_stop place stop 0 ≡ 0
unspaced place None = refl
unspaced place (Some stop) = omega arith

-- of a title
pub title_tells : (which : WhichTitle) (text : TitleText) (format : Format) (number : List ℕ) (f : Formatter) (L : Layout) (es : ComposerOf) (rs : AllRegisters)
    → is_diverted (Titles (title_at f text number)) L ≡ true → title_told rs which ≡ record { text = text; format = format }
    → number ≡ register_text format L.number.0 → length es.pages.diversions ≡ length L.diversions → es.due.text ≡ title_due which f L
    → TellsText (Titles (title_at f text number)) L es rs
title_tells which text format number f L es rs diverts told_so shown count is =
    let t : PlacedTitle = title_at f text number in
    let there : Target = target (Titles t) L in
    let columns : ℕ = f.composer.environments.in_force.lines.settings.title_length in
    let bytes : List ℕ = diverted (title_text t) in
    let made : TitleTold → List ℕ = λ told. diverted (title_text (title_laid told.text columns (register_text told.format L.number.0))) in
    let shows : List ℕ → List ℕ = λ number. diverted (title_text (title_laid text columns number)) in
    record {
      due = Gets (length L.diversions - 1) bytes;
      so = ap (bytes_due L.diversions) (text_of_boxes (Titles t) L diverts
          ∙ ap (λ (n : ℕ). diverted_lines (replicate n Empty ++ Lined (title_text t) ∷ [])) (unspaced (there.place + 1) there.stop));
      told = ap (λ (text : DueText). text_told text es rs) is
          ∙ due_of L.diversions es bytes (made (title_told rs which)) count (ap made told_so ∙ ap shows (sym shown));
    }

-- blank lines alone
all_blank : (none : Bool) (t : Target) (k : ℕ) → let boxes : List Box = boxes_put t (if none then None else Some (blank_lines k)) in
    boxes ≡ replicate (length boxes) Empty
all_blank true t k = refl
all_blank false t k =
    let n : ℕ = within_stop t.place t.stop k in
    ap (λ (m : ℕ). replicate m Empty) (sym (length-replicate n Empty))

blank_bytes : (n : ℕ) (ds : List Diversion) → 0 < n → bytes_due ds (replicate n 10) ≡ Some (Gets (length ds - 1) (replicate n 10))
blank_bytes zero ds some = absurd (omega (arith, some))
blank_bytes (suc n) ds some = refl

blank_due_of : (boxes : List Box) (ds : List Diversion) → boxes ≡ replicate (length boxes) Empty → 0 < length boxes
    → bytes_due ds (diverted_lines boxes) ≡ Some (Gets (length ds - 1) (replicate (length boxes) 10))
blank_due_of boxes ds is some =
    let n : ℕ = length boxes in
    ap (λ (boxes : List Box). bytes_due ds (diverted_lines boxes)) (is ∙ sym (append-nil (replicate n Empty)))
    ∙ ap (bytes_due ds) (blank_text n []) ∙ blank_bytes n ds some

module _ (L : Layout) (es : ComposerOf) (rs : AllRegisters) (count : length es.pages.diversions ≡ length L.diversions) where
  blank_tells : (x : Happening) → text_due x L ≡ bytes_due L.diversions (diverted_text x L) → is_diverted x L ≡ true
      → appended x L ≡ replicate (length (appended x L)) Empty → 0 < length (appended x L)
      → es.due.text ≡ BlankDue (length (appended x L)) → TellsText x L es rs
  blank_tells x reads diverts blank some is =
      let bytes : List ℕ = replicate (length (appended x L)) 10 in
      record {
        due = Gets (length L.diversions - 1) bytes;
        so = reads ∙ ap (bytes_due L.diversions) (text_of_boxes x L diverts) ∙ blank_due_of (appended x L) L.diversions blank some;
        told = ap (λ (text : DueText). text_told text es rs) is ∙ due_of L.diversions es bytes bytes count refl;
      }

  pub space_tells : (k : ℕ) → is_diverted (Does (Space k)) L ≡ true → 0 < length (appended (Does (Space k)) L)
      → es.due.text ≡ BlankDue (length (appended (Does (Space k)) L)) → TellsText (Does (Space k)) L es rs
  space_tells k diverts some is =
      let t : Target = target (Does (Space k)) L in
      blank_tells (Does (Space k)) refl diverts (all_blank t.no_space t k) some is

  pub need_tells : (k : ℕ) → is_diverted (Does (Need k)) L ≡ true → 0 < length (appended (Does (Need k)) L)
      → es.due.text ≡ BlankDue (length (appended (Does (Need k)) L)) → TellsText (Does (Need k)) L es rs
  need_tells k diverts some is =
      let t : Target = target (Does (Need k)) L in
      blank_tells (Does (Need k)) refl diverts (all_blank false t (needed k t.place t.stop)) some is

-- what is put leaves as many diversions open
in_innermost-length : (boxes : List Box) (ds : List Diversion) → length (in_innermost boxes ds) ≡ length ds
in_innermost-length boxes [] = refl
in_innermost-length boxes (d ∷ ds) = refl

put_leaves : (x : Happening) (p : Option Put) (boxes : List Box) (L : Layout) → is_diverted x L ≡ true → (unput x L).diversions ≡ L.diversions
    → length (behind_put x p boxes L).diversions ≡ length L.diversions
put_leaves x None boxes L is stays = ap length stays
put_leaves x (Some p) boxes L is stays =
    ap (λ (b : Bool). length (turned_unless b (with_boxes x boxes (record L { next = next_behind x L.next }))).diversions) is
    ∙ ap (λ (b : Bool). length (if b then in_innermost boxes L.diversions else L.diversions)) is ∙ in_innermost-length boxes L.diversions

pub same_behind : (l : Limits) (h : PageHistory) (x : PastEvent) (y : Happening) (es : ComposerOf) → StandFor l (x ∷ h) es → happens h x ≡ Some y
    → is_diverted y (layout_of h) ≡ true → (unput y (layout_of h)).diversions ≡ (layout_of h).diversions
    → length es.pages.diversions ≡ length (layout_of h).diversions
same_behind l h x y es now is diverts stays =
    same_diversions (layout_of (x ∷ h)) es now.pages
    ∙ ap (λ (o : Option Happening). length (laid_out o (layout_of h)).diversions) is
    ∙ put_leaves y (puts y (layout_of h)) (appended y (layout_of h)) (layout_of h) diverts stays

-- an event that may put something opens none, and ends none
pub put_opens : (e : LayoutEvent) (L : Layout) → may_put e ≡ true → (without_put e L).diversions ≡ L.diversions
put_opens (Space k) L is = refl
put_opens (Need k) L is = refl
put_opens (Eject asked) L is = refl
put_opens (EjectTo asked number) L is = refl
put_opens (EjectOn asked) L is = refl
put_opens EjectLast L is = refl
put_opens (_) L is = absurd (cc)
