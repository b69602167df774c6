-- Bytes of a text line that stand in front are told to the environment in force.
use Rattle.std.proofs.Common.{◌≡◌, ◌↔◌, Bool, Result, Ok, Err, IsErr, refl, ℕ, zero, suc, ◌+◌, ◌<◌, ◌≤◌, true, false, List, [], ◌∷◌, length, length-take, take, take-take, sym, ap, subst, ◌∙◌, arith, cond, min, nat_lt, slice_index_or, take_while, ltb-false, ltb-true, append-nil, get_or-take}
use Rattle.std.proofs.lemmas.Bool.Decides.{nat_tests}
use Rattle.std.proofs.lemmas.List.Folds.{length-prefix_len}
use Rattle.std.proofs.lemmas.List.Sums.{prefix_len-le-length, take_while-cons}
use Rattle.std.specs.List.{AllByRecursion, prefix_len}
use Rattle.page_model.specs.Events.{History}
use Rattle.page_model.specs.Fields.{is_in_field}
use Rattle.roff_lines.specs.Env.Stands.{Stands}
use Rattle.page_model.specs.Telling.{QuietlyTold, bytes_told}
use Rattle.roff_lines.specs.declared.env.Env.{Env}
use Rattle.roff_num.specs.declared.limit.Limit.{Limit}
use Rattle.roff_num.specs.declared.limits.Limits.{Limits}
use Rattle.page_model.specs.Layout.{Layout}
use Rattle.roff_pages.specs.Pages.Stands.{StandsAs}
use Rattle.page_model.specs.Queries.{takes_text}
use Rattle.input_source.proofs.PlainBytes.{take_while-plain}
use Rattle.input_source.specs.Bytes.{is_text_byte}
use Rattle.run_model.specs.Environments.{Environments, environments, text_of}
use Rattle.run_state.specs.Composer.Standing.{StandFor}
use Rattle.run_state.specs.Environments.Standing.{StandBy}
use Rattle.run_state.specs.declared.environments.Environments.{Environments as EnvironmentsOf}
use Rattle.page_model.specs.declared.event.Event.TheVariants.{Print}
use Rattle.page_model.specs.declared.glyph.Glyph.{Glyph}
use Rattle.run_model.specs.Output.{PageHistory, layout_of, written}
use Rattle.run_model.specs.declared.event.PageEvent.TheVariants.{Text}
use Rattle.run_model.specs.Telling.{page_told}
use Rattle.run_state.specs.declared.composer.Composer.{Composer as ComposerOf}
use Rattle.run_events.specs.declared.formatter.Formatter.{Formatter}
use Rattle.run_events.specs.Formatter.Telling.{TellsFront, most_at_once}
use Rattle.run_state.proofs.ToldBytes.{environments-told, layout-told, with_text, written-told}

-- the environments with these lines in force
abbrev with_lines : EnvironmentsOf → Env → EnvironmentsOf
with_lines coded lines = record coded { in_force = record coded.in_force { lines = lines } }

-- where they stand for more of its history, the environments do
stand-with_text : (l : Limits) (text : History) (es : Environments) (coded : EnvironmentsOf) (lines : Env) → StandBy l es coded → Stands l.line text lines
    → StandBy l (with_text text es) (with_lines coded lines)
stand-with_text l text es coded lines stood stands = record {
  number = stood.number;
  in_force = record { lines = stands; interrupted = stood.in_force.interrupted; input_trap = stood.in_force.input_trap };
  next = stood.next;
  last = stood.last;
  left = stood.left;
  cap = stood.cap;
}

-- so they stand where bytes were told to it that finish no line, and the pages stand for what they did
pub stand-told : (l : Limits) (bytes : List ℕ) (h : PageHistory) (coded : ComposerOf) (lines : Env) → StandFor l h coded
    → QuietlyTold l.line bytes (text_of h) → Stands l.line (bytes_told bytes (text_of h)) lines
    → StandFor l (page_told bytes h) (record coded { environments = with_lines coded.environments lines })
stand-told l bytes h coded lines stood quiet stands =
    let same : layout_of (page_told bytes h) ≡ layout_of h = layout-told l.line bytes h quiet in record {
      environments = subst (λ (es : Environments). StandBy l es (with_lines coded.environments lines)) (sym (environments-told bytes h))
          (stand-with_text l (bytes_told bytes (text_of h)) (environments h) coded.environments lines stood.environments stands);
      pages = subst (λ (L : Layout). StandsAs L coded.pages) (sym same) stood.pages;
      written = stood.written ∙ sym (ap length (written-told l.line bytes h quiet));
      within = stood.within;
      output = stood.output;
      traps = stood.traps;
      diversions = stood.diversions;
      goes_on = ap (λ (L : Layout). L.is_over) same ∙ stood.goes_on;
    }

-- what isn't refused is no longer than it may be
by_test : (above : Bool) (most size : ℕ) → nat_lt most size ≡ above → (most < size → ⊥) → size ≤ most
by_test false most size is none = ltb-false most size is
by_test true most size is none = absurd (none (ltb-true most size is))

pub short_enough : (r : Result (Unit {0}) Limit) (done : Unit {0}) (most size : ℕ) → r ≡ Ok done → IsErr r ↔ (most < size) → size ≤ most
short_enough (Ok done) _ most size is refused = by_test (nat_lt most size) most size refl (λ above. let wrong : false ≡ true = refused.1 above in cc)
short_enough (Err limit) done most size is refused = absurd (cc)

-- and so they stand where a glyph was printed there
pub stand-glyph : (l : Limits) (glyph : Glyph) (h : PageHistory) (coded : ComposerOf) (lines : Env) → StandFor l h coded
    → Stands l.line (Print glyph ∷ text_of h) lines
    → StandFor l (Text (Print glyph) ∷ h) (record coded { environments = with_lines coded.environments lines })
stand-glyph l glyph h coded lines stood stands = record {
  environments = stand-with_text l (Print glyph ∷ text_of h) (environments h) coded.environments lines stood.environments stands;
  pages = stood.pages;
  written = stood.written ∙ sym (ap length (append-nil (written h)));
  within = stood.within;
  output = stood.output;
  traps = stood.traps;
  diversions = stood.diversions;
  goes_on = stood.goes_on;
}

-- what is so of each of these bytes, where something else is
pub all_by : (P Q : ℕ → Type 0) → ((b : ℕ) → P b → Q b) → (bytes : List ℕ) → AllByRecursion P bytes → AllByRecursion Q bytes
all_by P Q makes [] are = tt
all_by P Q makes (b ∷ bytes) are = (makes b are.0, all_by P Q makes bytes are.1)

-- the bytes of plain text that come first
text_taken : (front : List ℕ) → AllByRecursion (λ b. is_text_byte b ≡ true) (take (length (take_while is_text_byte front)) front)
text_taken front = rw length-prefix_len (take_while-plain is_text_byte front)

-- so many bytes in front come first, if they are plain text
few_plain : (n : ℕ) (bytes : List ℕ) → n ≤ length bytes → AllByRecursion (λ b. is_text_byte b ≡ true) (take n bytes) → n ≤ length (take_while is_text_byte bytes)
few_plain zero bytes few plain = omega arith
few_plain (suc n) [] few plain = absurd (omega (arith, few))
few_plain (suc n) (b ∷ bytes) few plain =
    let others = few_plain n bytes (omega (arith, few)) plain.1 in
    let same = take_while-cons is_text_byte b bytes ∙ ap (λ passes. cond passes (b ∷ take_while is_text_byte bytes) []) plain.0 in
    omega (arith, ap length same, others)

-- none of them is a control byte
above_controls : (b : ℕ) → is_text_byte b ≡ true → 31 < b
above_controls b text = grind (arith, nat_tests)

pub text_above : (front text : List ℕ) → text ≡ take (length (take_while is_text_byte front)) front → AllByRecursion (λ b. 31 < b) text
text_above front text is =
    all_by (λ b. is_text_byte b ≡ true) (λ b. 31 < b) above_controls text
    (subst (λ (bytes : List ℕ). AllByRecursion (λ b. is_text_byte b ≡ true) bytes) (sym is) (text_taken front))

-- what is so of each byte is so of each of the first
all_take : (P : ℕ → Type 0) (count : ℕ) (bytes : List ℕ) → AllByRecursion P bytes → AllByRecursion P (take count bytes)
all_take P zero bytes all = tt
all_take P (suc count) [] all = tt
all_take P (suc count) (b ∷ bytes) all = (all.0, all_take P count bytes all.1)

-- the formatter told none of them
pub tells_none : (front : List ℕ) (f : Formatter) → ((L : Layout) → StandsAs L f.composer.pages → takes_text L ≡ false) → TellsFront front 0 f f
tells_none front f none = record {
  few = omega arith;
  text = tt;
  takes = λ l h stood some. absurd (omega (arith, some));
  quiet = λ l h stood. tt;
  stands = λ l h stood. stood;
  most = λ l h stood takes few some can. absurd (let wrong : true ≡ false = sym takes ∙ none (layout_of h) stood.pages in cc);
}

-- or the first of them
pub tells_front : (front text : List ℕ) (count : ℕ) (f : Formatter) (lines : Env) → text ≡ take (length (take_while is_text_byte front)) front → count ≤ length text
    → ((L : Layout) → StandsAs L f.composer.pages → takes_text L ≡ true)
    → ((cap : ℕ) (h : History) → Stands cap h f.composer.environments.in_force.lines → QuietlyTold cap (take count text) h)
    → ((cap : ℕ) (h : History) → Stands cap h f.composer.environments.in_force.lines → Stands cap (bytes_told (take count text) h) lines)
    → ((cap : ℕ) (h : History) → Stands cap h f.composer.environments.in_force.lines → count < length text → QuietlyTold cap (take (count + 1) text) h
    → (is_in_field h ≡ true) × (slice_index_or front count 0 ≡ 32))
    → TellsFront front count f (record f { composer = record f.composer { environments = with_lines f.composer.environments lines } })
tells_front front text count f lines is few takes quiet stands most_told =
    let most : ℕ = length (take_while is_text_byte front) in
    let counted : length text ≡ min most (length front) = ap length is ∙ length-take most front in
    let same : take count text ≡ take count front = ap (take count) is ∙ take-take count most front (omega (arith, counted, few)) in
    let told_quietly : (l : Limits) (h : PageHistory) → StandFor l h f.composer → QuietlyTold l.line (take count front) (text_of h) =
    λ l h stood. subst (λ (bytes : List ℕ). QuietlyTold l.line bytes (text_of h)) same (quiet l.line (text_of h) stood.environments.in_force.lines) in
    record {
      few = omega (arith, few, counted);
      text = subst (λ (bytes : List ℕ). AllByRecursion (λ b. is_text_byte b ≡ true) bytes) same
          (all_take (λ b. is_text_byte b ≡ true) count text (subst (λ (bytes : List ℕ). AllByRecursion (λ b. is_text_byte b ≡ true) bytes) (sym is) (text_taken front)));
      takes = λ l h stood some. takes (layout_of h) stood.pages;
      quiet = λ l h stood. told_quietly l h stood;
      stands = λ l h stood. stand-told l (take count front) h f.composer lines stood (told_quietly l h stood)
          (subst (λ (bytes : List ℕ). Stands l.line (bytes_told bytes (text_of h)) lines) same (stands l.line (text_of h) stood.environments.in_force.lines));
      most = λ l h stood taken near some can.
          let plain : count + 1 ≤ most = few_plain (count + 1) front (omega (arith, some)) can.text in
          let one_more : take (count + 1) text ≡ take (count + 1) front = ap (take (count + 1)) is ∙ take-take (count + 1) most front plain in
          most_told l.line (text_of h) stood.environments.in_force.lines (omega (arith, counted, plain, some))
          (subst (λ (bytes : List ℕ). QuietlyTold l.line bytes (text_of h)) (sym one_more) can.quiet);
    }

-- plain text in front is no longer than all
pub plain_le : (bytes : List ℕ) → length (take_while is_text_byte bytes) ≤ length bytes
plain_le bytes =
    let same : length (take_while is_text_byte bytes) ≡ prefix_len is_text_byte bytes = length-prefix_len is_text_byte bytes in
    omega (arith, same, prefix_len-le-length is_text_byte bytes)

-- the same where they were counted
pub tells_counted : (near : List ℕ) (n count : ℕ) (f : Formatter) (lines : Env) → n ≡ length (take_while is_text_byte near) → count ≤ n
    → ((L : Layout) → StandsAs L f.composer.pages → takes_text L ≡ true)
    → ((cap : ℕ) (h : History) → Stands cap h f.composer.environments.in_force.lines → QuietlyTold cap (take count near) h)
    → ((cap : ℕ) (h : History) → Stands cap h f.composer.environments.in_force.lines → Stands cap (bytes_told (take count near) h) lines)
    → ((cap : ℕ) (h : History) → Stands cap h f.composer.environments.in_force.lines → count < n → QuietlyTold cap (take (count + 1) near) h
    → (is_in_field h ≡ true) × (slice_index_or near count 0 ≡ 32))
    → TellsFront near count f (record f { composer = record f.composer { environments = with_lines f.composer.environments lines } })
tells_counted near n count f lines is few takes quiet stands most =
    let within : n ≤ length near = omega (arith, is, plain_le near) in
    let same : take count (take n near) ≡ take count near = take-take count n near few in
    tells_front near (take n near) count f lines (ap (λ m. take m near) is) (omega (arith, few, within, length-take n near)) takes
    (λ cap h s. subst (λ xs. QuietlyTold cap xs h) (sym same) (quiet cap h s))
    (λ cap h s. subst (λ xs. Stands cap (bytes_told xs h) lines) (sym same) (stands cap h s))
    (λ cap h s less told. let more : count < n = omega (arith, less, within, length-take n near) in
    most cap h s more (subst (λ xs. QuietlyTold cap xs h) (take-take (count + 1) n near (omega (arith, more))) told))

-- so it did of all that stand in front, of which those were as many as are told at once
pub tells_of_all : (front near : List ℕ) (count : ℕ) (old new : Formatter) → near ≡ take most_at_once front → TellsFront near count old new → TellsFront front count old new
tells_of_all front near count old new is told =
    let counted : length near ≡ min most_at_once (length front) = ap length is ∙ length-take most_at_once front in
    let same : take count near ≡ take count front = ap (take count) is ∙ take-take count most_at_once front (omega (arith, counted, told.few)) in
    record {
      few = omega (arith, counted, told.few);
      text = subst (λ (bytes : List ℕ). AllByRecursion (λ b. is_text_byte b ≡ true) bytes) same told.text;
      takes = told.takes;
      quiet = λ l h stood. subst (λ (bytes : List ℕ). QuietlyTold l.line bytes (text_of h)) same (told.quiet l h stood);
      stands = λ l h stood. subst (λ (bytes : List ℕ). StandFor l (page_told bytes h) new.composer) same (told.stands l h stood);
      most = λ l h stood taken few some can.
          let one_more : take (count + 1) near ≡ take (count + 1) front = ap (take (count + 1)) is ∙ take-take (count + 1) most_at_once front (omega (arith, few)) in
          let found = told.most l h stood taken few (omega (arith, counted, few, some)) (record {
            text = subst (λ (bytes : List ℕ). AllByRecursion (λ b. is_text_byte b ≡ true) bytes) (sym one_more) can.text;
            quiet = subst (λ (bytes : List ℕ). QuietlyTold l.line bytes (text_of h)) (sym one_more) can.quiet;
          }) in
          (found.0, sym (ap (λ (bytes : List ℕ). slice_index_or bytes count 0) is ∙ get_or-take most_at_once front count 0 few) ∙ found.1);
    }
