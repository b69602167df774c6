-- Words and arguments in quotes are read as they were written, in any order.
use Rattle.std.proofs.Common.{◌≡◌, ℕ, suc, ◌+◌, Bool, true, false, List, [], ◌∷◌, ◌++◌, length, map, reverse, refl, ap, sym, subst, ◌∙◌, append_assoc, All, replicate, if◌then◌else◌, ◌==◌, eqb-true, append-nil}
use Rattle.std.specs.List.{flat_map}
use Rattle.std.proofs.lemmas.List.{reverse-append, reverse-reverse}
use Rattle.std.proofs.lemmas.List.Sums.{fold-append}
use Rattle.std.proofs.lemmas.List.Elements.{All-append, All-head, All-nil, All-tail}
use Rattle.input_model.specs.Arguments.{Arguments, arguments_read, no_arguments, with_argument_byte}
use Rattle.input_arguments.specs.Quoting.{quoted, quoted_byte}
use Rattle.input_model.specs.declared.place.Place.TheVariants.{BehindQuote, InQuotes}
use Rattle.input_source.specs.Bytes.{blank, quote}
use Rattle.input_model.specs.Input.{lines_taken}
use Rattle.law_reading.proofs.QuotedArguments.{itself-quoted}
use Rattle.law_reading.proofs.WordArguments.{behind, behind-blanks, behind-part, behind-word, themselves-blanks, themselves-word, whole_ones}
use Rattle.law_reading.proofs.WordCalls.{bodies_get_the_arguments_read, bodies_of_the_source_get_the_arguments_read}
use Rattle.law_reading.specs.CallLaws.{with_call}
use Rattle.law_reading.specs.InterpolationLaws.{StandsForItself}
use Rattle.law_reading.specs.MixedArguments.{AreWritten, BodiesGetMixedArguments, BodiesOfTheSourceGetMixedArguments, MayBeWritten, MixedArgumentsReadBack, Quoted, Word, Written, argument_of, arguments_of, written_and_gap, written_bytes, written_line}
use Rattle.law_reading.specs.WordCalls.{call_with, read_as}
use Rattle.run_model.specs.Run.{State}
use Rattle.run_model.specs.Within.{IsWithin}

-- arguments of which one is being read within quotes, and one of which the closing quote was read
abbrev in_quotes : List (List ℕ) → List ℕ → Arguments
in_quotes whole begun = record { whole = whole; begun = begun; place = InQuotes }

abbrev behind_quote : List (List ℕ) → List ℕ → Arguments
behind_quote whole text = record { whole = whole; begun = reverse text; place = BehindQuote }

-- a byte within quotes, and several
behind-quoted_byte : (whole : List (List ℕ)) (begun : List ℕ) (b : ℕ) (is_quote : Bool) → (b == quote) ≡ is_quote
    → behind (in_quotes whole begun) (if is_quote then quote ∷ quote ∷ [] else b ∷ []) ≡ in_quotes whole (b ∷ begun)
behind-quoted_byte whole begun b true is = ap (λ (c : ℕ). in_quotes whole (c ∷ begun)) (sym (eqb-true b quote is))
behind-quoted_byte whole begun b false is = rw is refl

behind-quoted_bytes : (whole : List (List ℕ)) (begun text : List ℕ) → behind (in_quotes whole begun) (flat_map quoted_byte text) ≡ in_quotes whole (reverse text ++ begun)
behind-quoted_bytes whole begun [] = refl
behind-quoted_bytes whole begun (b ∷ text) =
    fold-append with_argument_byte (in_quotes whole begun) (quoted_byte b) (flat_map quoted_byte text)
    ∙ ap (λ (a : Arguments). behind a (flat_map quoted_byte text)) (behind-quoted_byte whole begun b (b == quote) refl)
    ∙ behind-quoted_bytes whole (b ∷ begun) text
    ∙ ap (in_quotes whole) (sym (append_assoc (reverse text) (b ∷ []) begun) ∙ ap (λ (front : List ℕ). front ++ begun) (sym (reverse-append (b ∷ []) text)))

-- an argument in quotes
behind-quoted : (whole : List (List ℕ)) (text : List ℕ) → behind (whole_ones whole) (quoted text) ≡ behind_quote whole text
behind-quoted whole text =
    fold-append with_argument_byte (in_quotes whole []) (flat_map quoted_byte text) (quote ∷ [])
    ∙ ap (λ (a : Arguments). with_argument_byte a quote) (behind-quoted_bytes whole [] text ∙ ap (in_quotes whole) (append-nil (reverse text)))

-- one argument more, with the blanks behind it
behind-written : (whole : List (List ℕ)) (written : Written) (n : ℕ) → MayBeWritten written
    → behind (whole_ones whole) (written_and_gap (written, n)) ≡ whole_ones (argument_of written ∷ whole)
behind-written whole (Word word) n may = behind-part whole word n may
behind-written whole (Quoted text) n may =
    fold-append with_argument_byte (whole_ones whole) (quoted text) (replicate (suc n) blank)
    ∙ ap (λ (a : Arguments). behind a (replicate (suc n) blank)) (behind-quoted whole text)
    ∙ behind-blanks (reverse (reverse text) ∷ whole) n
    ∙ ap (λ (t : List ℕ). whole_ones (t ∷ whole)) (reverse-reverse text)

-- and several
abbrev MayStand : Written × ℕ → Type 0
MayStand part = MayBeWritten part.0

behind-parts : (whole : List (List ℕ)) (parts : List (Written × ℕ)) → AreWritten parts
    → behind (whole_ones whole) (flat_map written_and_gap parts) ≡ whole_ones (reverse (map (λ part. argument_of part.0) parts) ++ whole)
behind-parts whole [] are = refl
behind-parts whole (part ∷ parts) are =
    let texts : List (List ℕ) = map (λ p. argument_of p.0) parts in
    fold-append with_argument_byte (whole_ones whole) (written_and_gap part) (flat_map written_and_gap parts)
    ∙ ap (λ (a : Arguments). behind a (flat_map written_and_gap parts)) (behind-written whole part.0 part.1 (All-head MayStand part parts are))
    ∙ behind-parts (argument_of part.0 ∷ whole) parts (All-tail MayStand part parts are)
    ∙ ap whole_ones (sym (append_assoc (reverse texts) (argument_of part.0 ∷ []) whole)
    ∙ ap (λ (front : List (List ℕ)). front ++ whole) (sym (reverse-append (argument_of part.0 ∷ []) texts)))

-- the last one is whole at the line's end
read-last : (whole : List (List ℕ)) (last : Written) → MayBeWritten last
    → arguments_read (behind (whole_ones whole) (written_bytes last)) ≡ reverse whole ++ argument_of last ∷ []
read-last whole (Word word) may =
    ap arguments_read (behind-word whole word may)
    ∙ ap (λ (t : List ℕ). reverse (t ∷ whole)) (reverse-reverse word)
    ∙ reverse-append (word ∷ []) whole
read-last whole (Quoted text) may =
    ap arguments_read (behind-quoted whole text)
    ∙ ap (λ (t : List ℕ). reverse (t ∷ whole)) (reverse-reverse text)
    ∙ reverse-append (text ∷ []) whole

pub mixed_arguments_read_back : MixedArgumentsReadBack
mixed_arguments_read_back leading parts last are may =
    let texts : List (List ℕ) = map (λ part. argument_of part.0) parts in
    ap arguments_read
    (fold-append with_argument_byte no_arguments (replicate leading blank ++ flat_map written_and_gap parts) (written_bytes last)
    ∙ ap (λ (a : Arguments). behind a (written_bytes last))
    (fold-append with_argument_byte no_arguments (replicate leading blank) (flat_map written_and_gap parts)
    ∙ ap (λ (a : Arguments). behind a (flat_map written_and_gap parts)) (behind-blanks [] leading)
    ∙ behind-parts [] parts are))
    ∙ read-last (reverse texts ++ []) last may
    ∙ ap (λ (front : List (List ℕ)). front ++ argument_of last ∷ []) (ap (λ (ts : List (List ℕ)). reverse ts) (append-nil (reverse texts)) ∙ reverse-reverse texts)

-- all bytes of such a line stand for themselves
themselves-written : (written : Written) → MayBeWritten written → All StandsForItself (written_bytes written)
themselves-written (Word word) may = themselves-word word may
themselves-written (Quoted text) may = itself-quoted text may

themselves-parts : (parts : List (Written × ℕ)) → AreWritten parts → All StandsForItself (flat_map written_and_gap parts)
themselves-parts [] are = All-nil StandsForItself
themselves-parts (part ∷ parts) are =
    All-append StandsForItself (written_and_gap part) (flat_map written_and_gap parts)
    (All-append StandsForItself (written_bytes part.0) (replicate (suc part.1) blank) (themselves-written part.0 (All-head MayStand part parts are)) (themselves-blanks (suc part.1)))
    (themselves-parts parts (All-tail MayStand part parts are))

themselves-line : (leading : ℕ) (parts : List (Written × ℕ)) (last : Written) → AreWritten parts → MayBeWritten last → All StandsForItself (written_line leading parts last)
themselves-line leading parts last are may =
    All-append StandsForItself (replicate leading blank ++ flat_map written_and_gap parts) (written_bytes last)
    (All-append StandsForItself (replicate leading blank) (flat_map written_and_gap parts) (themselves-blanks leading) (themselves-parts parts are))
    (themselves-written last may)

pub bodies_get_mixed_arguments : BodiesGetMixedArguments
bodies_get_mixed_arguments l s control name body leading parts last rest begins call are may ahead within within_called =
    let bytes : List ℕ = written_line leading parts last in
    let line : List ℕ = call_with control name bytes in
    let of : List (List ℕ) → State = λ arguments. record s { input = with_call body arguments (record s.input { ahead = rest; charge = s.input.charge + length line }) } in
    let same : of (read_as bytes) ≡ of (arguments_of parts last) = ap of (mixed_arguments_read_back leading parts last are may) in
    bodies_get_the_arguments_read l s control name body bytes rest begins call (themselves-line leading parts last are may) ahead within (subst (IsWithin l) (sym same) within_called) ∙ same

pub bodies_of_the_source_get_mixed_arguments : BodiesOfTheSourceGetMixedArguments
bodies_of_the_source_get_mixed_arguments l s control name body leading parts last tape begins call are may none stands within within_called =
    let bytes : List ℕ = written_line leading parts last in
    let line : List ℕ = call_with control name bytes in
    let of : List (List ℕ) → State = λ arguments. record s { tape = tape; input = with_call body arguments (lines_taken line s.input) } in
    let same : of (read_as bytes) ≡ of (arguments_of parts last) = ap of (mixed_arguments_read_back leading parts last are may) in
    bodies_of_the_source_get_the_arguments_read l s control name body bytes tape begins call (themselves-line leading parts last are may) none stands within
    (subst (IsWithin l) (sym same) within_called) ∙ same
