-- A comment behind the arguments of a line, read at once up to the newline that ends both.
use Rattle.std.proofs.Common.{◌≡◌, ◌==◌, ◌||◌, ◌<◌, ◌+◌, ℕ, suc, Bool, true, false, List, [], ◌∷◌, ◌++◌, Option, Some, None, length, get_or, append_assoc, refl, sym, ap, subst, ◌∙◌, arith, if◌then◌else◌, ◌&&◌, MatchOption, eqb-true, length-append}
use Rattle.std.proofs.lemmas.Bool.{and_parts}
use Rattle.memchr.specs.Find.{IsFirstByte, is_byte}
use Rattle.input_escapes.specs.OpenEscape.{Backslash, Comment, OpenEscape}
use Rattle.input_model.proofs.Settling.{held-only_kept-settled, settled-only_kept}
use Rattle.input_model.specs.Arguments.{Arguments, held, only_kept, settled}
use Rattle.input_model.specs.Input.{with_escapes}
use Rattle.input_model.specs.Unread.{IsWithin}
use Rattle.input_source.specs.Bytes.{backslash, is_dropped, newline, quote}
use Rattle.input_source.specs.Tape.{Tape}
use Rattle.roff_num.specs.declared.short_name.ShortName.{ShortName}
use Rattle.roff_scan.proofs.Staged.{stage-behind, staged}
use Rattle.roff_scan.specs.Unread.Calls.{IsFront, NoNewline, PassesFront, front_bytes}
use Rattle.roff_scan.specs.Unread.Lines.{StandsNewline}
use Rattle.roff_scan.specs.Unread.Runs.{with_stage_of}
use Rattle.roff_store.specs.Named.{Named}
use Rattle.roff_store.specs.Texts.{Entry}
use Rattle.run_model.specs.Reading.{byte_taking, escape_ended}
use Rattle.run_model.specs.Reading.Ends.{due}
use Rattle.run_model.specs.Reading.Items.{PageInput, PageUnread, Taking, going_on}
use Rattle.run_model.specs.Reading.Units.{interrupted}
use Rattle.run_model.specs.Reading.Waiting.{waiting_in}
use Rattle.run_model.specs.Registers.{Known}
use Rattle.run_model.specs.Stages.{Here, Onward, Stage, Turned, input_at, stage_of}
use Rattle.run_model.specs.declared.line_state.LineState.{LineState}
use Rattle.run_model.specs.declared.line_state.LineState.TheVariants.{Collecting}
use Rattle.run_model.specs.declared.purpose.Purpose.TheVariants.{Arguments as InArguments, Calling}
use Rattle.run_model.specs.declared.request.Request.{Request}
use Rattle.input_escapes.specs.declared.open_escape.Waiting.TheVariants.{Waits}
use Rattle.read_lines.specs.Reader.State.{ReaderState}
use Rattle.read_shortcuts.proofs.ControlFronts.{ready-some}
use Rattle.read_shortcuts.proofs.DroppedLines.{found-dropped}
use Rattle.read_shortcuts.specs.ControlFronts.{StandsReady}
use Rattle.read_arguments.specs.Comments.{EndsComment, LeavesComment, ReadsComment, begins_comment, has_newline, in_comment, opens_comment, reads_arguments}

-- the arguments where no quote follows the quote before
abbrev pub settles : Arguments → Arguments
settles a = only_kept (settled a)

-- an input with them, where this is half read
abbrev pub half_settled : List OpenEscape → PageInput → PageInput
half_settled half i = record i { escapes = half; arguments = settles i.arguments }

-- Where arguments are read, what a backslash begins changes only what is half read, and no quote follows the quote before: the backslash
-- itself, the quote behind it, each byte of the comment, and its end.
pub record ReadsHalf (reading : LineState) : Type 0 where
  pub none_due : due reading ≡ None
  pub begun : (k : Known) (i : PageInput) → byte_taking k reading (with_escapes [] i) backslash ≡ going_on (half_settled (Backslash ∷ []) i) reading
  pub opened : (k : Known) (i : PageInput) → byte_taking k reading (with_escapes (Backslash ∷ []) i) quote ≡ going_on (half_settled (Comment ∷ []) i) reading
  pub inside : (k : Known) (i : PageInput) (b : ℕ) → byte_taking k reading (with_escapes (Comment ∷ []) i) b ≡ going_on (half_settled (Comment ∷ []) i) reading
  pub ended : (k : Known) (i : PageInput) → escape_ended k reading (in_comment i) ≡ going_on (half_settled [] i) reading
  pub waits : (i : PageInput) → waiting_in reading (in_comment i) ≡ Waits

-- whether it is dropped makes no difference
either : (dropped : Bool) (t : Taking) → (if dropped then t else t) ≡ t
either true t = refl
either false t = refl

half-request : (breaks : Bool) (request : Request) → ReadsHalf (Collecting (InArguments breaks request))
half-request breaks request = record {
  none_due = refl;
  begun = λ k i. refl;
  opened = λ k i. refl;
  inside = λ k i b. either (is_dropped b) (going_on (half_settled (Comment ∷ []) i) (Collecting (InArguments breaks request)));
  ended = λ k i. refl;
  waits = λ i. refl;
}

half-call : (name : ShortName) → ReadsHalf (Collecting (Calling name))
half-call name = record {
  none_due = refl;
  begun = λ k i. refl;
  opened = λ k i. refl;
  inside = λ k i b. either (is_dropped b) (going_on (half_settled (Comment ∷ []) i) (Collecting (Calling name)));
  ended = λ k i. refl;
  waits = λ i. refl;
}

pub half-arguments : (reading : LineState) → reads_arguments reading ≡ true → ReadsHalf reading
half-arguments (Collecting (InArguments breaks request)) reads = half-request breaks request
half-arguments (Collecting (Calling name)) reads = half-call name
half-arguments (_) reads = absurd (let wrong : false ≡ true = reads in cc)

-- a stage
abbrev pub stage_with : LineState → List OpenEscape → Arguments → List (List ℕ) → Stage
stage_with reading half a texts = record { reading = reading; escapes = half; arguments = a; texts = texts }

-- bytes of a comment lead nowhere else
turned-inside : (names : Named Entry) (reading : LineState) (a : Arguments) (texts : List (List ℕ)) (bytes : List ℕ) → ReadsHalf reading → settles a ≡ a → NoNewline bytes
    → Turned names (stage_with reading (Comment ∷ []) a texts) bytes (stage_with reading (Comment ∷ []) a texts)
turned-inside names reading a texts [] reads same plain = Here (stage_with reading (Comment ∷ []) a texts)
turned-inside names reading a texts (b ∷ bytes) reads same plain =
    let p : Stage = stage_with reading (Comment ∷ []) a texts in
    Onward p p p b bytes reads.none_due plain.0
    (λ k i. reads.inside k (input_at names p i) b ∙ ap (λ (args : Arguments). going_on (record (input_at names p i) { arguments = args }) reading) same)
    refl (omega arith) (omega arith) (turned-inside names reading a texts bytes reads same plain.1)

-- and the bytes that begin one, behind arguments, lead to it
pub turned-comment : (names : Named Entry) (reading : LineState) (a : Arguments) (texts : List (List ℕ)) (bytes : List ℕ) → ReadsHalf reading → NoNewline bytes
    → Turned names (stage_with reading [] a texts) (backslash ∷ quote ∷ bytes) (stage_with reading (Comment ∷ []) (settles a) texts)
turned-comment names reading a texts bytes reads plain =
    let p : Stage = stage_with reading [] a texts in
    let q : Stage = stage_with reading (Backslash ∷ []) (settles a) texts in
    let r : Stage = stage_with reading (Comment ∷ []) (settles a) texts in
    let same : held (settles a) ≡ held a = held-only_kept-settled a in
    Onward p q r backslash (quote ∷ bytes) reads.none_due refl (λ k i. reads.begun k (input_at names p i)) refl (omega (arith, same)) (omega (arith, same))
    (Onward q r r quote bytes reads.none_due refl
    (λ k i. reads.opened k (input_at names q i) ∙ ap (λ (args : Arguments). going_on (record (input_at names r i) { arguments = args }) reading) (settled-only_kept a))
    refl (omega arith) (omega arith) (turned-inside names reading (settles a) texts bytes reads (settled-only_kept a) plain))

-- behind arguments that were settled a comment is left as it was read
pub leaves-comment : (reading : LineState) (a : Arguments) → ReadsHalf reading → settles a ≡ a → LeavesComment reading a
leaves-comment reading a reads same = record {
  ended = λ k i is.
      reads.ended k i
      ∙ ap (λ (args : Arguments). going_on (record i { escapes = []; arguments = args }) reading) (ap settles is ∙ same ∙ sym is);
  waits = reads.waits;
}

-- whether a newline is among bytes in front of which there are others
either_is : (first other : Bool) → other ≡ true → (first || other) ≡ true
either_is true other is = refl
either_is false other is = is

newline-behind : (front rest : List ℕ) → has_newline (front ++ newline ∷ rest) ≡ true
newline-behind [] rest = refl
newline-behind (b ∷ front) rest = either_is (b == newline) (has_newline (front ++ newline ∷ rest)) (newline-behind front rest)

-- so bytes with a comment begin with one that ends
pub begun-comment : (bytes : List ℕ) (count : ℕ) → EndsComment bytes count → begins_comment bytes ≡ true
begun-comment bytes count ends =
    ap begins_comment ends.are ∙ newline-behind (backslash ∷ quote ∷ ends.inside) ends.rest

-- bytes up to a newline that begin with a backslash and a quote: others stand between these and the newline
comment-inside : (front rest : List ℕ) → opens_comment (front ++ newline ∷ rest) ≡ true → NoNewline front
    → (inside : List ℕ) × ((front ≡ backslash ∷ quote ∷ inside) × NoNewline inside)
comment-inside [] [] opens plain = absurd (let wrong : false ≡ true = opens in cc)
comment-inside [] (c ∷ rest) opens plain = absurd (let wrong : false ≡ true = opens in cc)
comment-inside (b ∷ []) rest opens plain =
    let parts = and_parts (b == backslash) (newline == quote) opens in
    absurd (let wrong : false ≡ true = parts.1 in cc)
comment-inside (b ∷ c ∷ inside) rest opens plain =
    let parts = and_parts (b == backslash) (c == quote) opens in
    (inside, (ap (λ (x : ℕ). x ∷ c ∷ inside) (eqb-true b backslash parts.0) ∙ ap (λ (x : ℕ). backslash ∷ x ∷ inside) (eqb-true c quote parts.1), plain.1.1))

ends-comment : (bytes : List ℕ) (at : ℕ) → opens_comment bytes ≡ true → IsFirstByte (is_byte newline) bytes (Some at) → EndsComment bytes at
ends-comment bytes at opens first =
    let found = found-dropped 0 bytes at (omega arith) first in
    let within = comment-inside found.dropped found.rest (ap opens_comment (sym found.are) ∙ opens) found.plain in
    record {
      inside = within.0;
      rest = found.rest;
      are = found.are ∙ ap (λ (front : List ℕ). front ++ newline ∷ found.rest) within.1.0;
      plain = within.1.1;
      counted = let is = found.counted in let long = ap (λ (front : List ℕ). length front) within.1.0 in omega (arith, is, long);
    }

-- where none stands there is no newline
not-so : (t : Bool) → (t ≡ true → ⊥) → t ≡ false
not-so true unfound = absurd (unfound refl)
not-so false unfound = refl

none-newline : (bytes : List ℕ) → ((k : ℕ) → k < length bytes → (get_or bytes k 0 == newline) ≡ false) → has_newline bytes ≡ false
none-newline [] each = refl
none-newline (b ∷ bytes) each =
    ap (λ (c : Bool). c || has_newline bytes) (each 0 (omega arith)) ∙ none-newline bytes (λ k before. each (suc k) (omega (arith, before)))

-- so the place of the first newline says how long a comment is that begins there
pub comment-first : (bytes : List ℕ) (r : Option ℕ) → opens_comment bytes ≡ true → IsFirstByte (is_byte newline) bytes r
    → MatchOption r (begins_comment bytes ≡ false) (λ count. EndsComment bytes count)
comment-first bytes (Some at) opens first = ends-comment bytes at opens first
comment-first bytes None opens none =
    ap (λ (c : Bool). c && has_newline bytes) opens ∙ none-newline bytes (λ k before. not-so (get_or bytes k 0 == newline) (none k (omega arith) before))

-- a comment that stands in front, with its newline
module _ (count : ℕ) (bytes ready : List ℕ) (u : PageUnread) (are : bytes ≡ front_bytes (length bytes) ready u) (front : IsFront (length bytes) ready u)
    (ends : EndsComment bytes count) where
  -- its bytes
  abbrev pub comment : List ℕ
  comment = backslash ∷ quote ∷ ends.inside

  stands : StandsReady (comment ++ newline ∷ ends.rest) ready u
  stands = subst (λ (all : List ℕ). StandsReady all ready u) ends.are (record { are = are; front = front })

  stands-comment : StandsReady comment ready u
  stands-comment = ready-some comment (newline ∷ ends.rest) ready u stands

  stands-whole : StandsReady (comment ++ newline ∷ []) ready u
  stands-whole =
      ready-some (comment ++ newline ∷ []) ends.rest ready u
      (subst (λ (all : List ℕ). StandsReady all ready u) (sym (append_assoc comment (newline ∷ []) ends.rest)) stands)

  long : length comment ≡ count
  long = let is = ends.counted in omega (arith, is)

  pub comment_is : front_bytes count ready u ≡ comment
  comment_is = ap (λ (n : ℕ). front_bytes n ready u) (sym long) ∙ sym stands-comment.are

  comment-plain : NoNewline comment
  comment-plain = (refl, (refl, ends.plain))

  pub front-plain : NoNewline (front_bytes count ready u)
  front-plain = subst NoNewline (sym comment_is) comment-plain

  whole-long : length (comment ++ newline ∷ []) ≡ count + 1
  whole-long = omega (arith, length-append comment (newline ∷ []), long)

  front-ends : StandsNewline count ready u
  front-ends = record {
    front = subst (λ (n : ℕ). IsFront n ready u) whole-long stands-whole.front;
    last =
        ap (λ (n : ℕ). front_bytes n ready u) (sym whole-long) ∙ sym stands-whole.are ∙ ap (λ (some : List ℕ). some ++ newline ∷ []) (sym comment_is);
  }

  -- they stand there too where no quote follows the quote before
  pub settled-ends : (reading : LineState) (v : PageUnread) → v ≡ record u { input = interrupted reading u.input } → StandsNewline count ready v
  settled-ends reading v is =
      let stands = front-ends in
      subst (λ (w : PageUnread). StandsNewline count ready w) (sym is)
      (record { front = record { among = stands.front.among; within = stands.front.within }; last = stands.last })

  -- it was read, with its newline, where no quote follows the quote before
  module _ (gave gives : Tape → Type 0) (r : ReaderState) (settled_there after : PageUnread) (reads : reads_arguments r.reading ≡ true) (none_half : u.input.escapes ≡ [])
      (is : settled_there ≡ record u { input = interrupted r.reading u.input }) (within : IsWithin settled_there)
      (passes : PassesFront gave gives (front_bytes count ready settled_there ++ newline ∷ []) settled_there after) where
    abbrev i : PageInput
    i = u.input

    abbrev a : Arguments
    a = settles i.arguments

    there : record u { input = interrupted r.reading i } ≡ record u { input = staged i.escapes a i.open_texts i }
    there = settled-there r.reading reads
      where
        settled-there : (reading : LineState) → reads_arguments reading ≡ true → record u { input = interrupted reading i } ≡ record u { input = staged i.escapes a i.open_texts i }
        settled-there (Collecting (InArguments breaks request)) so = refl
        settled-there (Collecting (Calling name)) so = refl
        settled-there (_) so = absurd (let wrong : false ≡ true = so in cc)

    staged_is : settled_there ≡ record u { input = staged i.escapes a i.open_texts i }
    staged_is = is ∙ there

    passes-there : PassesFront gave gives (comment ++ newline ∷ []) (record u { input = staged i.escapes a i.open_texts i }) after
    passes-there =
        subst (λ (bytes : List ℕ). PassesFront gave gives (bytes ++ newline ∷ []) (record u { input = staged i.escapes a i.open_texts i }) after) comment_is
        (subst (λ (v : PageUnread). PassesFront gave gives (front_bytes count ready v ++ newline ∷ []) v after) staged_is passes)

    stage : after.input ≡ staged i.escapes a i.open_texts after.input
    stage = stage-behind gave gives (comment ++ newline ∷ []) i.escapes a i.open_texts u after passes-there

    same : with_stage_of after.input i ≡ staged i.escapes a i.open_texts i
    same = ap (λ (j : PageInput). with_stage_of j i) stage

    half : ReadsHalf r.reading
    half = half-arguments r.reading reads

    turned : Turned i.names (stage_of r.reading i) comment (stage_of r.reading (in_comment after.input))
    turned =
        subst (λ (j : PageInput). Turned i.names (stage_of r.reading i) comment (stage_of r.reading (in_comment j))) (sym stage)
        (subst (λ (h : List OpenEscape). Turned i.names (stage_with r.reading h i.arguments i.open_texts) comment (stage_with r.reading (Comment ∷ []) a i.open_texts)) (sym none_half)
        (turned-comment i.names r.reading i.arguments i.open_texts ends.inside half ends.plain))

    pub reads-comment : ReadsComment gave gives r u after
    reads-comment = record {
      bytes = comment;
      turned = turned;
      some = omega arith;
      plain = comment-plain;
      passes = subst (λ (j : PageInput). PassesFront gave gives (comment ++ newline ∷ []) (record u { input = j }) after) (sym same) passes-there;
      within = subst (λ (j : PageInput). IsWithin (record u { input = j })) (sym same) (subst IsWithin staged_is within);
      leaves =
          subst (LeavesComment r.reading) (sym (ap (λ (j : PageInput). j.arguments) stage)) (leaves-comment r.reading a half (settled-only_kept i.arguments));
      none_half = ap (λ (j : PageInput). j.escapes) stage ∙ none_half;
      none_due = half.none_due;
    }
