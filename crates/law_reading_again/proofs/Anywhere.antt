-- The law of reading again from the middle of a run.
use Rattle.std.proofs.Common.{◌≡◌, ℕ, ◌+◌, Bool, false, List, [], ◌∷◌, ◌++◌, length, Option, None, refl, sym, ap, ◌∙◌, arith, append-nil, length-append}
use Rattle.std.specs.List.{sum_by}
use Rattle.std.proofs.lemmas.List.Sums.{sum_by_push}
use Rattle.roff_num.specs.declared.limits.Limits.{Limits}
use Rattle.input_escapes.specs.OpenEscape.{OpenEscape}
use Rattle.input_model.specs.Input.{Ahead, bytes_ahead, ends_ahead, lines_taken}
use Rattle.page_model.specs.Events.{settings_after}
use Rattle.page_model.specs.Fields.{Told, plain, so_far}
use Rattle.page_model.specs.Fitting.{Word}
use Rattle.page_model.specs.Layout.{Box}
use Rattle.page_model.specs.Words.{Paragraph, open_glyphs, paragraph}
use Rattle.page_model.specs.declared.settings.Settings.{Settings}
use Rattle.run_model.proofs.ItemsTaken.{FromAhead, FromSource, Origin, ahead_at, tape_at}
use Rattle.run_model.proofs.PlainRuns.{behind_bytes, behind_bytes-counts, counted, counted-ahead, counted-source}
use Rattle.run_model.specs.Environments.{text_of}
use Rattle.run_model.specs.Output.{written}
use Rattle.run_model.specs.PageEvents.{PageEvent, PageHistory}
use Rattle.run_model.specs.Reading.Items.{PageInput}
use Rattle.run_model.specs.Run.{Following, State, after, nothing_follows}
use Rattle.run_model.specs.Within.{IsWithin}
use Rattle.run_model.specs.declared.line_state.LineState.{LineState}
use Rattle.run_model.specs.declared.line_state.LineState.TheVariants.{LineStart}
use Rattle.run_model.specs.declared.status.Status.{Status}
use Rattle.input_source.specs.Tape.{Tape}
use Rattle.law_reading_again.specs.Again.{AllPrint, again_text}
use Rattle.law_reading_again.specs.Anywhere.{BoxesComeBack, BoxesComeBackFromTheSource, HasRoomFor, IsIdle, IsPlain, ReadAt, ReadsPlainly, Spot}
use Rattle.law_reading_again.proofs.BoxRuns.{line_at, way-boxes}
use Rattle.law_reading_again.proofs.DivertedBoxes.{Around}
use Rattle.law_reading_again.proofs.PendingLines.{clear, unfilled}
use Rattle.law_reading_again.proofs.Standing.{Stands}
use Rattle.law_reading_again.proofs.Unfielded.{settings_after-plain, told-no_glyphs}
use Rattle.law_reading_again.proofs.TextRuns.{Goes, HasRoom, Scene, Way, text_run, way-from}

-- the diversion in which the run stands
abbrev around_at : (s : State) (p : Spot) → ReadsPlainly s p → Around
around_at s p plainly = record {
  name = p.name;
  appends = p.appends;
  layout = p.layout;
  settings = settings_after (text_of s.history);
  output = written s.history;
  goes_on = plainly.goes_on;
}

-- what is in force there
plain-settings : (s : Settings) → IsPlain s → s ≡ unfilled s
plain-settings s plain =
    let of : Bool → ℕ → ℕ → ℕ → Settings = λ filling centring indent spacing.
    record s { filling = filling; centring = centring; indent = indent; spacing = spacing } in
    ap (λ (b : Bool). of b s.centring s.indent s.spacing) plain.unfilled
    ∙ ap (λ (n : ℕ). of false n s.indent s.spacing) plain.uncentred
    ∙ ap (λ (n : ℕ). of false 0 n s.spacing) plain.unindented
    ∙ ap (λ (n : ℕ). of false 0 0 n) plain.single

idle-paragraph : (h : PageHistory) → IsIdle h → paragraph (plain (text_of h)) ≡ clear
idle-paragraph h idle =
    ap (λ (ws : List Word). record { words = ws; temporary_indent = (paragraph (plain (text_of h))).temporary_indent }) idle.no_words
    ∙ ap (λ (indent : Option ℕ). record { words = []; temporary_indent = indent }) idle.no_indent

stands-plainly : (s : State) (p : Spot) (plainly : ReadsPlainly s p) → Stands (around_at s p plainly) p.boxes [] s.history
stands-plainly s p plainly = record {
  events = plain (text_of s.history);
  as_told = told-no_glyphs (text_of s.history) plainly.idle.no_glyphs;
  laid = plainly.laid;
  settings = settings_after-plain (text_of s.history) ∙ plain-settings (settings_after (text_of s.history)) plainly.plain;
  cleared = idle-paragraph s.history plainly.idle;
  word = plainly.idle.no_glyphs;
  unbroken = plainly.unbroken;
  trapless = plainly.trapless;
  unwritten = refl;
}

idle-behind : (around : Around) (boxes : List Box) (h : PageHistory) → Stands around boxes [] h → IsIdle h
idle-behind around boxes h stands =
    let cleared : paragraph (plain (text_of h)) ≡ clear = ap (λ (t : Told). paragraph (so_far t)) stands.as_told ∙ stands.cleared in record {
      no_words = ap (λ (q : Paragraph). q.words) cleared;
      no_glyphs = ap (λ (t : Told). open_glyphs (so_far t)) stands.as_told ∙ stands.word;
      no_indent = ap (λ (q : Paragraph). q.temporary_indent) cleared;
    }

-- the run goes on there with the text of these boxes
abbrev scene_at : (l : Limits) (s : State) (p : Spot) (from : Origin) (boxes : List Box) → ReadsPlainly s p → Scene
scene_at l s p from boxes plainly = record {
  limits = l;
  base = s;
  from = from;
  around = around_at s p plainly;
  older = p.older;
  most = length p.text + length (again_text boxes);
}

-- there is room
room-at : (l : Limits) (s : State) (p : Spot) (from : Origin) (boxes : List Box) (plainly : ReadsPlainly s p) → IsWithin l s
    → HasRoomFor l s boxes
    → s.input.ahead ≡ ahead_at from (again_text boxes)
    → HasRoom (scene_at l s p from boxes plainly) (again_text boxes) p.text s.input
room-at l s p from boxes plainly within room ahead =
    let bytes = ap (λ (items : List (Ahead PageEvent)). bytes_ahead items) ahead in
    let ends = ap (λ (items : List (Ahead PageEvent)). ends_ahead items) ahead in
    let sum = ap (λ (texts : List (List ℕ)). sum_by length texts) plainly.texts ∙ sum_by_push length p.older p.text in
    let count = ap length plainly.texts ∙ length-append p.older (p.text ∷ []) in record {
      charged = room.bytes;
      names = within.names;
      title = within.title;
      stack = omega (arith, within.stack, bytes);
      depth = omega (arith, within.depth, ends);
      store = omega (arith, room.store, sum);
      making = omega (arith, within.making, count);
      output = within.output;
      texts = within.texts;
      conditions = within.conditions;
      few = omega arith;
    }

-- it stands at the text
abbrev there_is : State → Tape → List (Ahead PageEvent) → LineState → List OpenEscape → List (List ℕ) → List PageEvent → Following → Bool
    → Option Status → State
there_is s tape ahead reading half texts to_do follows is_closed ended = record s {
  tape = tape;
  input = record s.input { ahead = ahead; escapes = half; open_texts = texts };
  reading = reading;
  to_do = to_do;
  follows = follows;
  is_closed = is_closed;
  ended = ended;
}

begins-at : (s : State) (p : Spot) (from : Origin) (text : List ℕ) → ReadsPlainly s p → s.input.ahead ≡ ahead_at from text
    → s.tape ≡ tape_at from text s.tape
    → s ≡ text_run s from LineStart [] (p.older ++ p.text ∷ []) text s.input s.history
begins-at s p from text plainly ahead tape =
    let i : PageInput = s.input in
    ap (λ (t : Tape). there_is s t i.ahead s.reading i.escapes i.open_texts s.to_do s.follows s.is_closed s.ended) tape
    ∙ ap (λ (items : List (Ahead PageEvent)). there_is s (tape_at from text s.tape) items s.reading i.escapes i.open_texts s.to_do s.follows s.is_closed s.ended) ahead
    ∙ ap (λ (r : LineState). there_is s (tape_at from text s.tape) (ahead_at from text) r i.escapes i.open_texts s.to_do s.follows s.is_closed s.ended) plainly.reading
    ∙ ap (λ (h : List OpenEscape). there_is s (tape_at from text s.tape) (ahead_at from text) LineStart h i.open_texts s.to_do s.follows s.is_closed s.ended) plainly.escapes
    ∙ ap (λ (ts : List (List ℕ)). there_is s (tape_at from text s.tape) (ahead_at from text) LineStart [] ts s.to_do s.follows s.is_closed s.ended) plainly.texts
    ∙ ap (λ (es : List PageEvent). there_is s (tape_at from text s.tape) (ahead_at from text) LineStart [] (p.older ++ p.text ∷ []) es s.follows s.is_closed s.ended) plainly.takes.idle
    ∙ ap (λ (f : Following). there_is s (tape_at from text s.tape) (ahead_at from text) LineStart [] (p.older ++ p.text ∷ []) [] f s.is_closed s.ended) plainly.takes.unsprung
    ∙ ap (λ (c : Bool). there_is s (tape_at from text s.tape) (ahead_at from text) LineStart [] (p.older ++ p.text ∷ []) [] nothing_follows c s.ended) plainly.takes.is_open
    ∙ ap (λ (o : Option Status). there_is s (tape_at from text s.tape) (ahead_at from text) LineStart [] (p.older ++ p.text ∷ []) [] nothing_follows false o) plainly.takes.going

-- and behind it
abbrev behind_at : State → Origin → List ℕ → List (List ℕ) → PageHistory → State
behind_at s from text texts h =
    record s { tape = tape_at from [] s.tape; input = record (counted from text s.input) { open_texts = texts }; history = h }

ends-at : (s : State) (p : Spot) (from : Origin) (text : List ℕ) (texts : List (List ℕ)) (h : PageHistory) → ReadsPlainly s p
    → text_run s from LineStart [] texts [] (behind_bytes from text s.input) h ≡ behind_at s from text texts h
ends-at s p from text texts h plainly =
    let j : PageInput = counted from text s.input in
    let of : List OpenEscape → LineState → List PageEvent → Following → Bool → Option Status → State = λ half reading to_do follows is_closed ended. record s {
      tape = tape_at from [] s.tape;
      input = record j { escapes = half; open_texts = texts };
      reading = reading;
      to_do = to_do;
      follows = follows;
      history = h;
      is_closed = is_closed;
      ended = ended;
    } in
    ap (λ (i : PageInput). record (of [] LineStart [] nothing_follows false None) { input = record i { ahead = ahead_at from []; escapes = []; open_texts = texts } })
    (behind_bytes-counts from text s.input)
    ∙ ap (λ (half : List OpenEscape). of half LineStart [] nothing_follows false None) (sym plainly.escapes)
    ∙ ap (λ (r : LineState). of s.input.escapes r [] nothing_follows false None) (sym plainly.reading)
    ∙ ap (λ (es : List PageEvent). of s.input.escapes s.reading es nothing_follows false None) (sym plainly.takes.idle)
    ∙ ap (λ (f : Following). of s.input.escapes s.reading s.to_do f false None) (sym plainly.takes.unsprung)
    ∙ ap (λ (c : Bool). of s.input.escapes s.reading s.to_do s.follows c None) (sym plainly.takes.is_open)
    ∙ ap (λ (o : Option Status). of s.input.escapes s.reading s.to_do s.follows s.is_closed o) (sym plainly.takes.going)

-- so it reads them
reads-at : (l : Limits) (s : State) (p : Spot) (from : Origin) (boxes : List Box) (behind : PageHistory → State)
    (plainly : ReadsPlainly s p) → AllPrint boxes → IsWithin l s
    → HasRoomFor l s boxes → s.input.ahead ≡ ahead_at from (again_text boxes) → s.tape ≡ tape_at from (again_text boxes) s.tape
    → ((h : PageHistory) → behind_at s from (again_text boxes) (p.older ++ (p.text ++ again_text boxes) ∷ []) h ≡ behind h)
    → ReadAt l s p boxes behind
reads-at l s p from boxes behind plainly print within room ahead tape is =
    let text : List ℕ = again_text boxes in
    let c : Scene = scene_at l s p from boxes plainly in
    let last = line_at (boxes ++ p.boxes) (p.text ++ text) [] (behind_bytes from text s.input) in
    let way : Way c (line_at p.boxes p.text text s.input) last =
    way-from c (line_at p.boxes p.text text s.input) last (text ++ []) (sym (append-nil text))
    (way-boxes c p.boxes boxes p.text [] s.input plainly.nested print room.line (omega (arith, length-append p.text text))) in
    let goes : Goes c (line_at p.boxes p.text text s.input) last s.history =
    way s.history (stands-plainly s p plainly) (room-at l s p from boxes plainly within room ahead) in record {
      steps = goes.steps;
      history = goes.history;
      there = ap (after l goes.steps) (begins-at s p from text plainly ahead tape) ∙ goes.there
          ∙ ends-at s p from text (p.older ++ (p.text ++ text) ∷ []) goes.history plainly ∙ is goes.history;
      boxes_are = goes.stands.laid;
      idle = idle-behind (around_at s p plainly) (boxes ++ p.boxes) goes.history goes.stands;
      unwritten = goes.stands.unwritten;
    }

pub boxes_come_back : BoxesComeBack
boxes_come_back l boxes print s p rest plainly within room ahead =
    let text : List ℕ = again_text boxes in
    let texts : List (List ℕ) = p.older ++ (p.text ++ text) ∷ [] in
    let behind : PageHistory → State =
    λ h. record s { input = record s.input { ahead = rest; charge = s.input.charge + length text; open_texts = texts }; history = h } in
    reads-at l s p (FromAhead rest) boxes behind plainly print within room ahead refl
    (λ h. ap (λ (i : PageInput). record s { input = record i { open_texts = texts }; history = h }) (counted-ahead rest text s.input))

pub boxes_come_back_from_the_source : BoxesComeBackFromTheSource
boxes_come_back_from_the_source l boxes print s p tape plainly within room none stands =
    let text : List ℕ = again_text boxes in
    let texts : List (List ℕ) = p.older ++ (p.text ++ text) ∷ [] in
    let behind : PageHistory → State =
    λ h. record s { tape = tape; input = record (lines_taken text s.input) { open_texts = texts }; history = h } in
    reads-at l s p (FromSource tape) boxes behind plainly print within room none stands
    (λ h. ap (λ (i : PageInput). record s { tape = tape; input = record i { open_texts = texts }; history = h }) (counted-source tape text s.input none))
