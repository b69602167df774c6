-- Runs over the bytes of a diversion's text.
use Rattle.std.proofs.Common.{◌≡◌, ℕ, ◌+◌, ◌≤◌, false, List, [], ◌∷◌, ◌++◌, length, Some, None, refl, sym, ap, subst, ◌∙◌, arith, map, append-nil, length-append}
use Rattle.std.proofs.lemmas.List.Sums.{sum_by_push}
use Rattle.std.specs.List.{sum_by}
use Rattle.roff_num.specs.declared.limits.Limits.{Limits}
use Rattle.input_escapes.specs.OpenEscape.{OpenEscape, Backslash, texts_held}
use Rattle.input_escapes.specs.Waiting.{is_ended_by}
use Rattle.input_model.specs.Arguments.{held, live_bytes}
use Rattle.input_model.specs.Input.{ByteAhead, bytes_ahead, ends_ahead}
use Rattle.input_model.specs.Input.Names.{names_added}
use Rattle.page_model.specs.declared.event.Event.TheVariants.{Print}
use Rattle.page_model.specs.Layout.{Box}
use Rattle.page_model.specs.declared.glyph.Glyph.{Glyph}
use Rattle.roff_store.specs.Texts.{bytes_in}
use Rattle.run_model.proofs.ItemsTaken.{Fits, FromAhead, FromSource, Origin, ahead_at, bytes_ahead_are_taken, bytes_of_the_source_are_taken, made-Fits, tape_at}
use Rattle.run_model.proofs.Leads.{after-add}
use Rattle.run_model.proofs.PlainRuns.{behind_byte}
use Rattle.run_model.specs.Environments.{interrupted_line}
use Rattle.run_model.specs.declared.event.PageEvent.TheVariants.{Text}
use Rattle.run_model.specs.PageEvents.{PageEvent, PageHistory}
use Rattle.run_model.specs.Reading.Ends.{due}
use Rattle.run_model.specs.Reading.Items.{PageInput, Taking}
use Rattle.run_model.specs.Run.{State, after, byte_taken, known, made, nothing_follows, step, taken_as}
use Rattle.run_model.specs.TitleTexts.{title_length}
use Rattle.run_model.specs.declared.line_state.LineState.{LineState}
use Rattle.law_reading_again.proofs.Bytes.{Means, glyph_line}
use Rattle.law_reading_again.proofs.DivertedBoxes.{Around}
use Rattle.law_reading_again.proofs.Events.{event-step}
use Rattle.law_reading_again.proofs.Glyphs.{line_of}
use Rattle.law_reading_again.proofs.Standing.{Stands, Stands-print, none_goes_on, quiet-print}

-- a run that reads this behind such a history, with this half read and this text in the making, where these bytes come next
abbrev pub text_run : State → Origin → LineState → List OpenEscape → List (List ℕ) → List ℕ → PageInput → PageHistory → State
text_run s from reading half texts bytes i h = record s {
  tape = tape_at from bytes s.tape;
  input = record i { ahead = ahead_at from bytes; escapes = half; open_texts = texts };
  reading = reading;
  to_do = [];
  follows = nothing_follows;
  history = h;
  is_closed = false;
  ended = None;
}

-- what a byte means is to be done
byte-means : (s : State) (from : Origin) (p q : LineState) (half next : List OpenEscape) (texts : List (List ℕ)) (b : ℕ) (bytes : List ℕ)
    (events : List PageEvent) (i : PageInput) (h : PageHistory)
    → Means p half b events q next → interrupted_line h ≡ None
    → byte_taken b (text_run s from p half texts bytes i h) ≡ record (text_run s from q next texts bytes i h) { to_do = events }
byte-means s from p q half next texts b bytes events i h means none =
    let taken : State = text_run s from p half texts bytes i h in
    let there : State = text_run s from q next texts bytes i h in
    ap (λ (t : Taking). taken_as t taken) (means (known taken) taken.input none)
    ∙ ap (λ (m : List ℕ). record there { messages = m; to_do = events ++ [] }) (append-nil s.messages)
    ∙ ap (λ (es : List PageEvent). record there { to_do = es }) (append-nil events)

-- a step at a byte
pub step-byte : (l : Limits) (s : State) (from : Origin) (p q : LineState) (half next : List OpenEscape) (texts : List (List ℕ)) (b : ℕ) (bytes : List ℕ) (events : List PageEvent) (i : PageInput) (h : PageHistory)
    → due p ≡ None → is_ended_by half (Some b) ≡ false → Means p half b events q next → interrupted_line h ≡ None → i.charge + 1 ≤ l.bytes
    → Fits l s.registers (text_run s from q next texts bytes (behind_byte from b i) h).input
    → step l (text_run s from p half texts (b ∷ bytes) i h) ≡ record (text_run s from q next texts bytes (behind_byte from b i) h) { to_do = events }
step-byte l s (FromAhead rest) p q half next texts b bytes events i h none_due stays means none few fits =
    let from : Origin = FromAhead rest in
    let before : State = text_run s from p half texts (b ∷ bytes) i h in
    let there : State = record (text_run s from q next texts bytes (behind_byte from b i) h) { to_do = events } in
    bytes_ahead_are_taken l before b (map ByteAhead bytes ++ rest)
    (record { going = refl; is_open = refl; idle = refl; unsprung = refl; none_due = none_due })
    refl stays (omega (arith, few))
    ∙ ap (made l before) (byte-means s from p q half next texts b bytes events (behind_byte from b i) h means none)
    ∙ made-Fits l before there fits
step-byte l s (FromSource tape) p q half next texts b bytes events i h none_due stays means none few fits =
    let from : Origin = FromSource tape in
    let before : State = text_run s from p half texts (b ∷ bytes) i h in
    let there : State = record (text_run s from q next texts bytes (behind_byte from b i) h) { to_do = events } in
    bytes_of_the_source_are_taken l before b (record { going = refl; is_open = refl; idle = refl; unsprung = refl; none_due = none_due })
    refl refl stays (omega (arith, few))
    ∙ ap (made l before) (byte-means s from p q half next texts b bytes events (behind_byte from b i) h means none)
    ∙ made-Fits l before there fits

-- where such runs go on: the limits, what stays, where bytes come from, around what, behind which texts, and how long its own may grow
pub record Scene : Type 0 where
  pub limits : Limits
  pub base : State
  pub from : Origin
  pub around : Around
  pub older : List (List ℕ)
  pub most : ℕ

-- the texts in the making, where the diversion's has come so far
abbrev pub texts_at : Scene → List ℕ → List (List ℕ)
texts_at c text = c.older ++ text ∷ []

-- a point of the text at which nothing is half read
pub record Point : Type 0 where
  pub reading : LineState
  pub boxes : List Box
  pub glyphs : List Glyph
  pub text : List ℕ
  pub bytes : List ℕ
  pub input : PageInput

-- a run there
abbrev pub run_of : Scene → Point → PageHistory → State
run_of c p h = text_run c.base c.from p.reading [] (texts_at c p.text) p.bytes p.input h

-- the limits have room for the bytes that come next
pub record HasRoom (c : Scene) (bytes text : List ℕ) (i : PageInput) : Type 0 where
  pub charged : i.charge + length bytes ≤ c.limits.bytes
  pub names : length c.base.registers.named ≤ c.limits.names
  pub title : title_length c.base.registers.title ≤ c.limits.line
  pub stack : bytes_ahead (ahead_at c.from bytes) + held i.arguments + live_bytes i.calls ≤ c.limits.stack
  pub depth : ends_ahead (ahead_at c.from bytes) ≤ c.limits.depth
  pub store : bytes_in i.names + (sum_by length c.older + c.most) ≤ c.limits.store
  pub making : length c.older ≤ c.limits.diversions
  pub output : length c.around.output ≤ c.limits.output
  pub texts : names_added i ≤ c.limits.names
  pub conditions : length i.results ≤ c.limits.conditions
  pub few : length text ≤ c.most

-- so a step to there is made
pub room-fits : (c : Scene) (p : LineState) (half : List OpenEscape) (text bytes : List ℕ) (i : PageInput) (h : PageHistory)
    → texts_held half ≡ 0
    → HasRoom c bytes text i → Fits c.limits c.base.registers (text_run c.base c.from p half (texts_at c text) bytes i h).input
room-fits c p half text bytes i h none_held room = record {
  names = room.names;
  title = room.title;
  stack = omega (arith, room.stack, none_held);
  depth = room.depth;
  store = omega (arith, room.store, room.few, sum_by_push length c.older text);
  texts = room.texts;
  making = omega (arith, room.making, length-append c.older (text ∷ []));
  conditions = room.conditions;
}

-- and there is room behind a byte
stack-behind : (from : Origin) (b : ℕ) (bytes : List ℕ) → bytes_ahead (ahead_at from bytes) ≤ bytes_ahead (ahead_at from (b ∷ bytes))
stack-behind (FromAhead rest) b bytes = omega arith
stack-behind (FromSource tape) b bytes = omega arith

depth-behind : (from : Origin) (b : ℕ) (bytes : List ℕ) → ends_ahead (ahead_at from bytes) ≡ ends_ahead (ahead_at from (b ∷ bytes))
depth-behind (FromAhead rest) b bytes = refl
depth-behind (FromSource tape) b bytes = refl

pub room-behind : (c : Scene) (b : ℕ) (bytes text : List ℕ) (i : PageInput) → HasRoom c (b ∷ bytes) text i
    → HasRoom c bytes text (behind_byte c.from b i)
room-behind c b bytes text i room = record {
  charged = omega (arith, room.charged);
  names = room.names;
  title = room.title;
  stack = omega (arith, room.stack, stack-behind c.from b bytes);
  depth = omega (arith, room.depth, depth-behind c.from b bytes);
  store = room.store;
  making = room.making;
  output = room.output;
  texts = room.texts;
  conditions = room.conditions;
  few = room.few;
}

-- where the text in the making has grown
pub room-grown : (c : Scene) (bytes text grown : List ℕ) (i : PageInput) → length grown ≤ c.most → HasRoom c bytes text i
    → HasRoom c bytes grown i
room-grown c bytes text grown i few room = record {
  charged = room.charged;
  names = room.names;
  title = room.title;
  stack = room.stack;
  depth = room.depth;
  store = room.store;
  making = room.making;
  output = room.output;
  texts = room.texts;
  conditions = room.conditions;
  few = few;
}

-- a run goes from one point to another, behind this history
pub record Goes (c : Scene) (p q : Point) (h : PageHistory) : Type 0 where
  pub steps : ℕ
  pub history : PageHistory
  pub there : after c.limits steps (run_of c p h) ≡ run_of c q history
  pub stands : Stands c.around q.boxes q.glyphs history
  pub room : HasRoom c q.bytes q.text q.input

-- and so it does behind any that stands so, if there is room
abbrev pub Way : Scene → Point → Point → Type 0
Way c p q = (h : PageHistory) → Stands c.around p.boxes p.glyphs h → HasRoom c p.bytes p.text p.input → Goes c p q h

pub way-none : (c : Scene) (p : Point) → Way c p p
way-none c p = λ h stands room. record { steps = 0; history = h; there = refl; stands = stands; room = room }

-- one way behind another
pub way-then : (c : Scene) (p q r : Point) → Way c p q → Way c q r → Way c p r
way-then c p q r first second = λ h stands room.
    let one : Goes c p q h = first h stands room in
    let two : Goes c q r one.history = second one.history one.stands one.room in record {
      steps = one.steps + two.steps;
      history = two.history;
      there = after-add c.limits one.steps two.steps (run_of c p h) ∙ ap (after c.limits two.steps) one.there ∙ two.there;
      stands = two.stands;
      room = two.room;
    }

-- where the bytes are the same
pub way-from : (c : Scene) (p q : Point) (bytes : List ℕ) → p.bytes ≡ bytes → Way c (record p { bytes = bytes }) q → Way c p q
way-from c p q bytes same way = subst (λ (bs : List ℕ). Way c (record p { bytes = bs }) q) (sym same) way

pub way-to : (c : Scene) (p q r : Point) → q ≡ r → Way c p q → Way c p r
way-to c p q r same way = subst (λ (t : Point). Way c p t) same way

-- behind a glyph
abbrev pub behind_glyph : Scene → Point → Glyph → List ℕ → PageInput → Point
behind_glyph c p g bytes i =
    record { reading = glyph_line; boxes = p.boxes; glyphs = g ∷ p.glyphs; text = p.text; bytes = bytes; input = i }

-- a step at its event
after-print : (c : Scene) (p : Point) (g : Glyph) (bytes : List ℕ) (i : PageInput) (h : PageHistory) → Stands c.around p.boxes p.glyphs h
    → length (line_of (g ∷ p.glyphs)) ≤ c.limits.line
    → step c.limits (record (text_run c.base c.from glyph_line [] (texts_at c p.text) bytes i h) { to_do = Text (Print g) ∷ [] })
    ≡ text_run c.base c.from glyph_line [] (texts_at c p.text) bytes i (Text (Print g) ∷ h)
after-print c p g bytes i h stands fits =
    let s : State = text_run c.base c.from glyph_line [] (texts_at c p.text) bytes i h in
    event-step c.limits s (Text (Print g)) [] None refl refl (quiet-print c.limits c.around p.boxes p.glyphs s g stands fits)

-- a byte that is a glyph
pub way-glyph : (c : Scene) (p : Point) (b : ℕ) (bytes : List ℕ) (g : Glyph) → due p.reading ≡ None
    → Means p.reading [] b (Text (Print g) ∷ []) glyph_line [] → length (line_of (g ∷ p.glyphs)) ≤ c.limits.line
    → Way c (record p { bytes = b ∷ bytes }) (behind_glyph c p g bytes (behind_byte c.from b p.input))
way-glyph c p b bytes g none_due means fits = λ h stands room.
    let i : PageInput = behind_byte c.from b p.input in
    let behind : HasRoom c bytes p.text i = room-behind c b bytes p.text p.input room in record {
      steps = 2;
      history = Text (Print g) ∷ h;
      there = ap (after c.limits 1)
          (step-byte c.limits c.base c.from p.reading glyph_line [] [] (texts_at c p.text) b bytes (Text (Print g) ∷ []) p.input h none_due refl means
          (none_goes_on c.around p.boxes p.glyphs h stands) (omega (arith, room.charged))
          (room-fits c glyph_line [] p.text bytes i h refl behind))
          ∙ after-print c p g bytes i h stands fits;
      stands = Stands-print c.around p.boxes p.glyphs h g stands;
      room = behind;
    }

-- one behind a backslash
pub way-escape : (c : Scene) (p : Point) (b : ℕ) (bytes : List ℕ) (g : Glyph) → due p.reading ≡ None
    → Means p.reading [] 92 [] p.reading (Backslash ∷ []) → Means p.reading (Backslash ∷ []) b (Text (Print g) ∷ []) glyph_line []
    → length (line_of (g ∷ p.glyphs)) ≤ c.limits.line
    → Way c (record p { bytes = 92 ∷ b ∷ bytes }) (behind_glyph c p g bytes (behind_byte c.from b (behind_byte c.from 92 p.input)))
way-escape c p b bytes g none_due begins means fits = λ h stands room.
    let i : PageInput = behind_byte c.from 92 p.input in
    let j : PageInput = behind_byte c.from b i in
    let none = none_goes_on c.around p.boxes p.glyphs h stands in
    let half : HasRoom c (b ∷ bytes) p.text i = room-behind c 92 (b ∷ bytes) p.text p.input room in
    let behind : HasRoom c bytes p.text j = room-behind c b bytes p.text i half in record {
      steps = 3;
      history = Text (Print g) ∷ h;
      there = ap (after c.limits 2)
          (step-byte c.limits c.base c.from p.reading p.reading [] (Backslash ∷ []) (texts_at c p.text) 92 (b ∷ bytes) [] p.input h none_due refl begins
          none (omega (arith, room.charged)) (room-fits c p.reading (Backslash ∷ []) p.text (b ∷ bytes) i h refl half))
          ∙ ap (after c.limits 1)
          (step-byte c.limits c.base c.from p.reading glyph_line (Backslash ∷ []) [] (texts_at c p.text) b bytes (Text (Print g) ∷ []) i h none_due refl means
          none (omega (arith, half.charged)) (room-fits c glyph_line [] p.text bytes j h refl behind))
          ∙ after-print c p g bytes j h stands fits;
      stands = Stands-print c.around p.boxes p.glyphs h g stands;
      room = behind;
    }
