-- Lines that are dropped, read past at once with their newlines.
use Rattle.std.proofs.Common.{◌≡◌, ◌==◌, ◌≤◌, ◌<◌, ◌+◌, ℕ, zero, suc, Bool, true, false, not, List, [], ◌∷◌, ◌++◌, Some, None, length, take, drop, get_or, append_assoc, refl, sym, ap, subst, ◌∙◌, arith, if◌then◌else◌, eqb-true, length-append, length-take, take-append-drop}
use Rattle.std.specs.List.{AllByRecursion}
use Rattle.std.proofs.lemmas.List.{drop_more}
use Rattle.memchr.specs.Find.{IsFirstByte, is_byte}
use Rattle.input_escapes.specs.OpenEscape.{OpenEscape}
use Rattle.input_model.specs.Unread.{IsWithin}
use Rattle.input_source.specs.Bytes.{backslash, is_dropped, newline}
use Rattle.input_source.specs.Tape.{Tape}
use Rattle.roff_scan.specs.Unread.Calls.{IsFront, NoNewline, PassesFront, front_bytes, next_bytes}
use Rattle.roff_scan.specs.Unread.Lines.{StandsNewline}
use Rattle.read_lines.specs.Reader.State.{ReaderState}
use Rattle.run_model.specs.Reading.Ends.{due}
use Rattle.run_model.specs.Reading.Items.{PageInput, PageUnread, going_on}
use Rattle.run_model.specs.Stages.{Ignores, Turned, stage_of}
use Rattle.run_model.specs.declared.line_state.LineState.{LineState}
use Rattle.run_model.specs.declared.line_state.LineState.TheVariants.{Dropped, LineStart}
use Rattle.read_shortcuts.specs.ControlFronts.{BeginsControl, HoldsArguments, StandsName, StandsReady, control_byte}
use Rattle.read_shortcuts.specs.DroppedLines.{EndsDropped, LeadsToDropped, LineBegun}
use Rattle.read_shortcuts.specs.Stages.{ReadsPast}
use Rattle.read_shortcuts.specs.declared.control.ControlFront.{ControlFront}
use Rattle.read_shortcuts.proofs.AddedRuns.{turned-same}
use Rattle.read_shortcuts.proofs.ControlFronts.{control_plain, ready-some, stage_with, turned-dropped}
use Rattle.read_shortcuts.proofs.LineEnds.{turned-ended}
use Rattle.read_shortcuts.proofs.LinesRead.{LeadsBehind, Turned-append, named-leads, plain-append, three}
use Rattle.read_shortcuts.proofs.RegistersPut.{leaves}
use Rattle.read_shortcuts.proofs.RunsRead.{first_of_front, reads-bytes}

-- what isn't so
not-so : (t : Bool) → (t ≡ true → ⊥) → t ≡ false
not-so true unfound = absurd (unfound refl)
not-so false unfound = refl

-- up to the first newline there is none
first-plain : (bytes : List ℕ) (at : ℕ) → ((k : ℕ) → k < at → (get_or bytes k 0 == newline) ≡ false) → NoNewline (take at bytes)
first-plain bytes zero each = tt
first-plain [] (suc n) each = tt
first-plain (b ∷ bytes) (suc n) each = (each 0 (omega arith), first-plain bytes n (λ k before. each (suc k) (omega (arith, before))))

-- so the bytes in front of the first one behind so many are those that are dropped
pub found-dropped : (skipped : ℕ) (bytes : List ℕ) (at : ℕ) → skipped ≤ length bytes → IsFirstByte (is_byte newline) (drop skipped bytes) (Some at) → EndsDropped skipped bytes (skipped + at)
found-dropped skipped bytes at among first =
    let rest : List ℕ = drop skipped bytes in
    record {
      dropped = take at rest;
      rest = drop (at + 1) rest;
      among = among;
      are =
          sym (take-append-drop at rest) ∙ ap (λ (behind : List ℕ). take at rest ++ behind) (drop_more rest at 0 first.0.high)
          ∙ ap (λ (b : ℕ). take at rest ++ b ∷ drop (at + 1) rest) (eqb-true (get_or rest at 0) newline first.1);
      plain = first-plain rest at (λ k before. not-so (get_or rest k 0 == newline) (first.0.before k (omega arith) before));
      counted = let whole = length-take at rest in let high = first.0.high in omega (arith, whole, high);
    }

-- any byte but a newline changes nothing
ignored : (i : PageInput) (drops ends : Bool) → ends ≡ false → (if drops then going_on i Dropped else going_on i (if ends then LineStart else Dropped)) ≡ going_on i Dropped
ignored i true ends none = refl
ignored i false true none = absurd (cc)
ignored i false false none = refl

ignores : (b : ℕ) → not (b == newline) ≡ true → Ignores Dropped b
ignores b other k i bare = ignored i (is_dropped b) (b == newline) (not-newline (b == newline) other)
  where
    not-newline : (t : Bool) → not t ≡ true → t ≡ false
    not-newline true is = absurd (cc)
    not-newline false is = refl

others : (bytes : List ℕ) → NoNewline bytes → AllByRecursion (λ b. not (b == newline) ≡ true) bytes
others [] plain = tt
others (b ∷ bytes) plain = (ap not plain.0, others bytes plain.1)

-- the line, where its rest is dropped and stands in front with its newline
module _ (skipped count : ℕ) (bytes ready : List ℕ) (r : ReaderState) (before : PageUnread) (leads : LeadsToDropped skipped r.reading ready before)
    (are : bytes ≡ front_bytes (length bytes) ready before) (front : IsFront (length bytes) ready before) (ends : EndsDropped skipped bytes count) where
  abbrev i : PageInput
  i = before.input

  -- the bytes in front of what is dropped, and the line without its newline
  abbrev first : List ℕ
  first = front_bytes skipped ready before

  abbrev line : List ℕ
  line = first ++ ends.dropped

  split : bytes ≡ line ++ newline ∷ ends.rest
  split =
      sym (take-append-drop skipped bytes) ∙ ap (λ (behind : List ℕ). take skipped bytes ++ behind) ends.are
      ∙ ap (λ (some : List ℕ). some ++ (ends.dropped ++ newline ∷ ends.rest)) (first_of_front bytes skipped ready before are ends.among)
      ∙ sym (append_assoc first ends.dropped (newline ∷ ends.rest))

  stands : StandsReady (line ++ newline ∷ ends.rest) ready before
  stands = subst (λ (all : List ℕ). StandsReady all ready before) split (record { are = are; front = front })

  stands-line : StandsReady line ready before
  stands-line = ready-some line (newline ∷ ends.rest) ready before stands

  stands-whole : StandsReady (line ++ newline ∷ []) ready before
  stands-whole =
      ready-some (line ++ newline ∷ []) ends.rest ready before
      (subst (λ (all : List ℕ). StandsReady all ready before) (sym (append_assoc line (newline ∷ []) ends.rest)) stands)

  long : length line ≡ count
  long =
      let some = length-take skipped (next_bytes before.input.ahead before.looked ready) in
      omega (arith, length-append first ends.dropped, some, leads.front.among, ends.counted)

  pub line_is : front_bytes (count) ready before ≡ line
  line_is = ap (λ (n : ℕ). front_bytes n ready before) (sym long) ∙ sym stands-line.are

  pub line-plain : NoNewline (front_bytes (count) ready before)
  line-plain = subst NoNewline (sym line_is) (plain-append first ends.dropped leads.plain ends.plain)

  whole-long : length (line ++ newline ∷ []) ≡ count + 1
  whole-long = omega (arith, length-append line (newline ∷ []), long)

  pub line-ends : StandsNewline (count) ready before
  line-ends = record {
    front = subst (λ (n : ℕ). IsFront n ready before) whole-long stands-whole.front;
    last =
        ap (λ (n : ℕ). front_bytes n ready before) (sym whole-long) ∙ sym stands-whole.are ∙ ap (λ (some : List ℕ). some ++ newline ∷ []) (sym line_is);
  }

  -- its bytes lead to where a line begins
  turned-newline : Turned i.names (stage_of Dropped i) (newline ∷ []) (stage_of LineStart i)
  turned-newline =
      subst (λ (half : List OpenEscape). Turned i.names (stage_with Dropped half i.arguments i.open_texts) (newline ∷ []) (stage_with LineStart half i.arguments i.open_texts))
      (sym leads.none_half) (turned-ended i.names Dropped i.arguments i.open_texts refl (λ k j. refl))

  turned-line : Turned i.names (stage_of r.reading i) (front_bytes (count) ready before ++ newline ∷ []) (stage_of LineStart i)
  turned-line =
      subst (λ (some : List ℕ). Turned i.names (stage_of r.reading i) (some ++ newline ∷ []) (stage_of LineStart i)) (sym line_is)
      (Turned-append i.names (stage_of r.reading i) (stage_of Dropped i) (stage_of LineStart i) line (newline ∷ [])
      (Turned-append i.names (stage_of r.reading i) (stage_of Dropped i) (stage_of Dropped i) first ends.dropped leads.turned
      (turned-same (λ b. not (b == newline)) i.names Dropped i.escapes i.arguments i.open_texts ends.dropped leads.none_half refl ignores (others ends.dropped ends.plain)))
      turned-newline)

  module _ (gave gives : Tape → Type 0) (new : ReaderState) (after : PageUnread)
      (passes : PassesFront gave gives (front_bytes (count) ready before ++ newline ∷ []) before after) (is : new ≡ record r { reading = LineStart }) where
    pub reads-ended_line : IsWithin after → ReadsPast gave gives r new before after
    reads-ended_line within =
        subst (λ (n : ReaderState). ReadsPast gave gives r n before after) (sym is)
        (reads-bytes gave gives (front_bytes (count) ready before ++ newline ∷ []) r (record r { reading = LineStart }) before after passes turned-line refl refl within)

    pub begun-line : LineBegun new before after
    begun-line = record {
      begins = ap (λ (n : ReaderState). n.reading) is;
      fewer =
          (leaves gave gives (front_bytes (count) ready before ++ newline ∷ []) before after
          (omega (arith, length-append (front_bytes (count) ready before) (newline ∷ []))) passes).turns;
    }

-- where it isn't read to its end, the bytes in front of what is dropped are read past
pub reads-led : (gave gives : Tape → Type 0) (skipped : ℕ) (ready : List ℕ) (r new : ReaderState) (before after : PageUnread) → LeadsToDropped skipped r.reading ready before
    → PassesFront gave gives (front_bytes skipped ready before) before after → IsWithin after → new ≡ record r { reading = Dropped } → ReadsPast gave gives r new before after
reads-led gave gives skipped ready r new before after leads passes within is =
    subst (λ (n : ReaderState). ReadsPast gave gives r n before after) (sym is)
    (reads-bytes gave gives (front_bytes skipped ready before) r (record r { reading = Dropped }) before after passes leads.turned refl refl within)

-- bytes that lead to where a line is dropped, with the arguments that were there
pub leads-dropped : (first : List ℕ) (there reading : LineState) (ready : List ℕ) (u : PageUnread) → LeadsBehind first there reading u.input.arguments ready u → there ≡ Dropped
    → LeadsToDropped (length first) reading ready u
leads-dropped first there reading ready u leads is =
    let i : PageInput = u.input in
    let dropped : LeadsBehind first Dropped reading u.input.arguments ready u =
    subst (λ (state : LineState). LeadsBehind first state reading u.input.arguments ready u) is leads in
    record {
      front = leads.stands.front;
      some = leads.some;
      plain = subst NoNewline leads.stands.are leads.plain;
      none_half = leads.none_half;
      turned =
          subst (λ (some : List ℕ). Turned i.names (stage_of reading i) some (stage_of Dropped i)) leads.stands.are
          (subst (λ (half : List OpenEscape). Turned i.names (stage_with reading half i.arguments i.open_texts) first (stage_with Dropped half i.arguments i.open_texts)) (sym leads.none_half)
          dropped.turned);
    }

-- a backslash behind the dot or apostrophe leads there
pub backslash-leads : (breaks : Bool) (reading : LineState) (ready : List ℕ) (u : PageUnread) → due reading ≡ None → BeginsControl reading → u.input.escapes ≡ []
    → StandsReady (control_byte breaks ∷ backslash ∷ []) ready u → LeadsToDropped 2 reading ready u
backslash-leads breaks reading ready u none_due begins none_half stands =
    let i : PageInput = u.input in
    leads-dropped (control_byte breaks ∷ backslash ∷ []) Dropped reading ready u (record {
      stands = stands;
      some = omega arith;
      plain = (control_plain breaks, (refl, tt));
      none_half = none_half;
      none_due = refl;
      turned = turned-dropped i.names reading breaks i.arguments i.open_texts none_due begins;
    }) refl

-- and a name that stands for nothing does
pub name-leads : (front : ControlFront) (there reading : LineState) (ready : List ℕ) (u : PageUnread) → StandsName front there reading ready u → there ≡ Dropped
    → LeadsToDropped 3 reading ready u
name-leads front there reading ready u named is =
    let holds : HoldsArguments there = subst HoldsArguments (sym is) (refl, refl) in
    leads-dropped (three front) there reading ready u (named-leads front there reading ready u named holds) is
