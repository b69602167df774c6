-- What a paragraph of a plain history writes is its lines, laid out.
use Rattle.std.proofs.Common.{◌≡◌, Bool, true, false, not, ◌&&◌, List, [], ◌∷◌, ◌++◌, Option, Some, None, refl, sym, ap, subst, ◌∙◌, inl, inr, if◌then◌else◌, map, All}
use Rattle.std.specs.List.{cons_option}
use Rattle.std.proofs.lemmas.Bool.{cases_Bool}
use Rattle.std.proofs.lemmas.List.Elements.{All-head, All-tail}
use Rattle.page_model.specs.declared.settings.Settings.{Settings}
use Rattle.page_model.specs.declared.event.Event.TheVariants.{WordEnd, LineEnd, Break}
use Rattle.page_model.specs.Events.{History, settings_after}
use Rattle.page_model.specs.Settings.{fills}
use Rattle.page_model.specs.Fitting.{Word, fits, last_line}
use Rattle.page_model.specs.Words.{is_empty, has_open_word, open_word, words, temporary_indent}
use Rattle.page_model.specs.Lines.{Finished, empty_line, line_laid_out, finished_in, pending_line}
use Rattle.law_lines.specs.Filling.{with_word, lines_of, last_of, AreLongestFronts}
use Rattle.page_model.specs.Telling.{words_told, IsWordUnder, IsClear}
use Rattle.page_model.specs.Paragraphs.{finished_lines, until_break, begun_under, full_lines, broken_lines, paragraph_lines}
use Rattle.roff_lines.proofs.PendingLine.{is_empty-last_line}
use Rattle.law_lines.proofs.Filling.{fills_lines}
use Rattle.law_lines.proofs.ToldWords.{settings_after-words, until_break-words, words-words}

-- the full lines with a word that joins the last one
full_lines-joined : (w v : Word) (line : List Word) (lines : List (List Word))
    → full_lines ((w ∷ v ∷ line) ∷ lines) ≡ full_lines ((v ∷ line) ∷ lines)
full_lines-joined w v line [] = refl
full_lines-joined w v line (before ∷ lines) = refl

-- the line that a word finishes, behind other words
finished_by : (fit : Bool) (w v : Word) (line : List Word) (lines : List (List Word))
    → full_lines (if fit then (w ∷ v ∷ line) ∷ lines else (w ∷ []) ∷ (v ∷ line) ∷ lines)
    ≡ cons_option (if not fit then Some (line_laid_out w.under true (v ∷ line)) else None) (full_lines ((v ∷ line) ∷ lines))
finished_by true w v line lines = full_lines-joined w v line lines
finished_by false w v line lines = refl

-- the full lines with a word more: one more, if it doesn't fit behind the last one
full_lines-with_word : (w : Word) (lines : List (List Word)) → AreLongestFronts lines
    → full_lines (with_word w lines)
    ≡ cons_option (if not (is_empty (last_of lines)) && not (fits (last_of lines) w) then Some (line_laid_out w.under true (last_of lines)) else None) (full_lines lines)
full_lines-with_word w [] longest = refl
full_lines-with_word w ([] ∷ []) longest = absurd longest.0
full_lines-with_word w ([] ∷ before ∷ lines) longest = absurd longest.0
full_lines-with_word w ((v ∷ line) ∷ lines) longest = finished_by (fits (v ∷ line) w) w v line lines

-- the full lines of words with one more
full_lines-more : (w : Word) (ws : List Word) → full_lines (lines_of (w ∷ ws))
    ≡ cons_option (if not (is_empty ws) && not (fits (last_line ws) w) then Some (line_laid_out w.under true (last_line ws)) else None)
    (full_lines (lines_of ws))
full_lines-more w ws =
    let Goal : List Word → Type 0 = λ line. full_lines (lines_of (w ∷ ws))
    ≡ cons_option (if not (is_empty line) && not (fits line w) then Some (line_laid_out w.under true line) else None)
    (full_lines (lines_of ws)) in
    let filled = fills_lines ws in
    rw (← is_empty-last_line ws) (subst Goal (sym filled.pending) (full_lines-with_word w (lines_of ws) filled.longest))

-- a line before others, and more behind them
cons_option-append : (o : Option Finished) (xs ys : List Finished) → cons_option o xs ++ ys ≡ cons_option o (xs ++ ys)
cons_option-append None xs ys = refl
cons_option-append (Some x) xs ys = refl

-- a word end finishes the full line of the words before it, if it finishes one
finished_lines-word_end : (h : History) → finished_lines h ≡ full_lines (lines_of (words h)) ++ finished_lines (until_break h)
    → finished_lines (WordEnd ∷ h) ≡ full_lines (lines_of (words (WordEnd ∷ h))) ++ finished_lines (until_break h)
finished_lines-word_end h before =
    let behind = finished_lines (until_break h) in
    let line : Option Finished =
    if not (is_empty (words h)) && not (fits (pending_line h) (open_word h))
    then Some (line_laid_out (settings_after h) true (pending_line h))
    else None in
    elim (cases_Bool (has_open_word h)) [
      | inl is_open ↦ rw is_open (
          ap (cons_option line) before
          ∙ sym (cons_option-append line (full_lines (lines_of (words h))) behind)
          ∙ ap (λ lines. lines ++ behind) (sym (full_lines-more (open_word h) (words h))))
      | inr closed ↦ rw closed before
    ]

-- at a break there are no words yet
finished_lines-clear : (h : History) → words h ≡ [] → until_break h ≡ h
    → finished_lines h ≡ full_lines (lines_of (words h)) ++ finished_lines (until_break h)
finished_lines-clear h none here =
    ap finished_lines (sym here) ∙ ap (λ ws. full_lines (lines_of ws) ++ finished_lines (until_break h)) (sym none)

-- a history has finished the full lines of its words since the last break
pub finished_lines-pending : (h : History) → finished_lines h ≡ full_lines (lines_of (words h)) ++ finished_lines (until_break h)
finished_lines-pending [] = refl
finished_lines-pending (WordEnd ∷ h) = finished_lines-word_end h (finished_lines-pending h)
finished_lines-pending (LineEnd ∷ h) =
    elim (cases_Bool (fills (settings_after h))) [
      | inl measured ↦ rw measured (finished_lines-pending h)
      | inr off ↦ finished_lines-clear (LineEnd ∷ h) (rw off refl) (rw off refl)
    ]
finished_lines-pending (Break ∷ h) = refl
finished_lines-pending (_ ∷ h) = finished_lines-pending h

-- lines with a word more have one
is_empty-joined : (fit : Bool) (w : Word) (line : List Word) (lines : List (List Word))
    → is_empty (if fit then (w ∷ line) ∷ lines else (w ∷ []) ∷ line ∷ lines) ≡ false
is_empty-joined true w line lines = refl
is_empty-joined false w line lines = refl

is_empty-with_word : (w : Word) (lines : List (List Word)) → is_empty (with_word w lines) ≡ false
is_empty-with_word w [] = refl
is_empty-with_word w (line ∷ lines) = is_empty-joined (fits line w) w line lines

-- words have lines, unless there are none
is_empty-lines_of : (ws : List Word) → is_empty (lines_of ws) ≡ is_empty ws
is_empty-lines_of [] = refl
is_empty-lines_of (w ∷ ws) = is_empty-with_word w (lines_of ws)

-- all lines are the full ones and the last one
broken_lines-last : (s : Settings) (lines : List (List Word)) (behind : List Finished) → broken_lines s lines ++ behind
    ≡ cons_option (if is_empty lines then None else Some (line_laid_out s false (last_of lines))) (full_lines lines ++ behind)
broken_lines-last s [] behind = refl
broken_lines-last s (last ∷ lines) behind = refl

-- a break finishes the last line, too
pub finished_lines-broken : (h : History) → finished_lines (Break ∷ h)
    ≡ broken_lines (settings_after h) (lines_of (words h)) ++ finished_lines (until_break h)
finished_lines-broken h =
    let s = settings_after h in
    let lines = lines_of (words h) in
    let behind = finished_lines (until_break h) in
    let finished_as : Bool → List Word → List Finished =
    λ none line. cons_option (if none then None else Some (line_laid_out s false line)) (full_lines lines ++ behind) in
    ap (cons_option (finished_in h Break)) (finished_lines-pending h)
    ∙ ap (λ none. finished_as none (pending_line h)) (sym (is_empty-lines_of (words h)))
    ∙ ap (finished_as (is_empty lines)) (fills_lines (words h)).pending
    ∙ sym (broken_lines-last s lines behind)

-- where words aren't measured, a line's end finishes what a break does
unfilled-line : (measured none : Bool) (empty : Option Finished) (line : Finished) → measured ≡ false → none ≡ false
    → (if measured then None else if none then empty else Some line) ≡ (if none then None else Some line)
unfilled-line true none empty line off some = cc
unfilled-line false true empty line off some = cc
unfilled-line false false empty line off some = refl

-- so it does behind words
pub finished_lines-unfilled : (h : History) → fills (settings_after h) ≡ false → is_empty (words h) ≡ false
    → finished_lines (LineEnd ∷ h)
    ≡ broken_lines (settings_after h) (lines_of (words h)) ++ finished_lines (until_break h)
finished_lines-unfilled h off some =
    let s = settings_after h in
    let line = line_laid_out s false (pending_line h) in
    let empty : Option Finished = if s.filling then None else Some (empty_line s) in
    let same : finished_in h LineEnd ≡ finished_in h Break = unfilled-line (fills s) (is_empty (words h)) empty line off some in
    ap (λ o. cons_option o (finished_lines h)) same ∙ finished_lines-broken h

-- each line begins under the same settings
abbrev EachBegun : Settings → List (List Word) → Type 0
EachBegun s [] = Unit {0}
EachBegun s (line ∷ lines) = (begun_under line ≡ s) × EachBegun s lines

-- so they do with a word more that ends under them
each_begun-joined : (s : Settings) (fit : Bool) (w v : Word) (line : List Word) (lines : List (List Word))
    → w.under ≡ s → EachBegun s ((v ∷ line) ∷ lines)
    → EachBegun s (if fit then (w ∷ v ∷ line) ∷ lines else (w ∷ []) ∷ (v ∷ line) ∷ lines)
each_begun-joined s true w v line lines under each = each
each_begun-joined s false w v line lines under each = (under, each)

each_begun-with_word : (s : Settings) (w : Word) (lines : List (List Word)) → w.under ≡ s → AreLongestFronts lines
    → EachBegun s lines → EachBegun s (with_word w lines)
each_begun-with_word s w [] under longest each = (under, tt)
each_begun-with_word s w ([] ∷ []) under longest each = absurd longest.0
each_begun-with_word s w ([] ∷ before ∷ lines) under longest each = absurd longest.0
each_begun-with_word s w ((v ∷ line) ∷ lines) under longest each = each_begun-joined s (fits (v ∷ line) w) w v line lines under each

-- the lines of words that end under them
each_begun : (s : Settings) (ws : List Word) → All (λ w. w.under ≡ s) ws → EachBegun s (lines_of ws)
each_begun s [] under = tt
each_begun s (w ∷ ws) under =
    each_begun-with_word s w (lines_of ws) (All-head (λ v. v.under ≡ s) w ws under) (fills_lines ws).longest
    (each_begun s ws (All-tail (λ v. v.under ≡ s) w ws under))

-- the full lines then
full_lines-even : (s : Settings) (last : List Word) (lines : List (List Word)) → EachBegun s (last ∷ lines)
    → full_lines (last ∷ lines) ≡ map (line_laid_out s true) lines
full_lines-even s last [] each = refl
full_lines-even s last (line ∷ lines) each =
    ap (λ t. line_laid_out t true line ∷ full_lines (line ∷ lines)) each.0
    ∙ ap (λ ls. line_laid_out s true line ∷ ls) (full_lines-even s line lines each.1)

-- so all lines of a paragraph in which nothing changes
broken_lines-even : (s : Settings) (lines : List (List Word)) → EachBegun s lines → broken_lines s lines ≡ paragraph_lines s lines
broken_lines-even s [] each = refl
broken_lines-even s (last ∷ lines) each = ap (λ ls. line_laid_out s false last ∷ ls) (full_lines-even s last lines each)

-- a break behind a clear history and words that end under what is in force there
pub finished_lines-even : (h told : History) → IsClear h → settings_after told ≡ settings_after h → until_break told ≡ until_break h
    → All (λ w. w.under ≡ settings_after h) (words told)
    → finished_lines (Break ∷ told) ≡ paragraph_lines (settings_after h) (lines_of (words told)) ++ finished_lines h
finished_lines-even h told clear same from under =
    let s = settings_after h in
    let lines = lines_of (words told) in
    let here : finished_lines (until_break h) ≡ finished_lines h =
    sym (finished_lines-pending h ∙ ap (λ ws. full_lines (lines_of ws) ++ finished_lines (until_break h)) clear.no_words) in
    finished_lines-broken told
    ∙ ap (λ t. broken_lines t lines ++ finished_lines (until_break told)) same
    ∙ ap (λ ls. ls ++ finished_lines (until_break told)) (broken_lines-even s lines (each_begun s (words told) under))
    ∙ ap (λ g. paragraph_lines s lines ++ finished_lines g) from
    ∙ ap (λ ls. paragraph_lines s lines ++ ls) here

-- words that are told one after another, and then a break, finish their lines
pub finished_lines-told : (ws : List Word) (h : History) → IsClear h → temporary_indent h ≡ None
    → All (IsWordUnder (settings_after h)) ws
    → finished_lines (Break ∷ words_told ws h) ≡ paragraph_lines (settings_after h) (lines_of ws) ++ finished_lines h
finished_lines-told ws h clear none each =
    let s = settings_after h in
    let told = words-words h clear none ws each in
    let under : All (λ w. w.under ≡ s) (words (words_told ws h)) = rw told (λ k d lt. (each k d lt).under) in
    finished_lines-even h (words_told ws h) clear (settings_after-words h clear ws) (until_break-words h clear ws) under
    ∙ ap (λ vs. paragraph_lines s (lines_of vs) ++ finished_lines h) told
