-- Bytes behind a request's name, or that of a body, are held in the arguments of the line, one after another.
use Rattle.std.proofs.Common.{◌≡◌, ℕ, ◌==◌, ◌≤◌, Bool, true, false, not, ◌||◌, List, [], ◌∷◌, Option, None, Some, refl, rules, sym, ap, subst, ◌∙◌, arith, if◌then◌else◌}
use Rattle.std.specs.List.{AllByRecursion}
use Rattle.input_model.proofs.KeptArguments.{held-only_kept, held-with_argument_byte}
use Rattle.input_arguments.proofs.HeldBytes.{held-byte}
use Rattle.input_model.specs.Arguments.{Arguments, HeldFewer, bytes_held, held, only_kept, with_argument_byte}
use Rattle.input_source.specs.Bytes.{is_argument_byte, backslash, is_dropped, newline}
use Rattle.input_escapes.specs.OpenEscape.{OpenEscape}
use Rattle.input_escapes.specs.Waiting.{is_ended_by}
use Rattle.roff_store.specs.Named.{Named}
use Rattle.roff_store.specs.Texts.{Entry}
use Rattle.read_lines.proofs.CalledArguments.{call-byte}
use Rattle.run_model.specs.Reading.{undropped_taking}
use Rattle.run_model.specs.Reading.Ends.{due}
use Rattle.run_model.specs.Reading.Items.{going_on}
use Rattle.run_model.specs.Reading.Units.{settling}
use Rattle.run_model.specs.Stages.{Here, HoldsIfFewer, Onward, Stage, Turned, input_at}
use Rattle.run_model.specs.declared.line_state.LineState.{LineState}
use Rattle.run_model.specs.declared.line_state.LineState.TheVariants.{Collecting}
use Rattle.run_model.specs.declared.purpose.Purpose.TheVariants.{Arguments as InArguments, Calling}
use Rattle.run_model.specs.declared.request.Request.{Request}
use Rattle.roff_num.specs.declared.short_name.ShortName.{ShortName}

-- a byte that is held as it is read is none of three kinds
pub none_of_three : (first second third : Bool) → not (first || (second || third)) ≡ true → (first ≡ false) × ((second ≡ false) × (third ≡ false))
none_of_three true second third none = absurd (cc)
none_of_three false true third none = absurd (cc)
none_of_three false false true none = absurd (cc)
none_of_three false false false none = (refl, (refl, refl))

-- what was held stays
pub held-byte_least : (a : Arguments) (b : ℕ) → held a ≤ held (only_kept (with_argument_byte a b))
held-byte_least a b = omega (arith, held-only_kept (with_argument_byte a b), held-with_argument_byte a b)

-- a byte that is held as it is read, behind the name of a body, where fewer than eight arguments are whole
holds_call : (name : ShortName) (b : ℕ) → is_argument_byte b ≡ true → HoldsIfFewer (Some 8) (Collecting (Calling name)) b
holds_call name b plain = λ k i none_half few.
    let reading : LineState = Collecting (Calling name) in
    let none = none_of_three (b == backslash) (is_dropped b) (b == newline) plain in
    ap (λ (c : Bool). if c then going_on (settling i) reading else undropped_taking k reading i b) none.1.0 ∙ sym (call-byte k name i b none_half few none.0 none.1.1)

pub holds_call_where : (reading : LineState) (name : ShortName) → reading ≡ Collecting (Calling name) → (b : ℕ) → is_argument_byte b ≡ true → HoldsIfFewer (Some 8) reading b
holds_call_where reading name is b plain = subst (λ (r : LineState). HoldsIfFewer (Some 8) r b) (sym is) (holds_call name b plain)

-- and behind that of a request, however many are
pub holds_request : (breaks : Bool) (request : Request) (b : ℕ) → is_argument_byte b ≡ true → HoldsIfFewer None (Collecting (InArguments breaks request)) b
holds_request breaks request b plain = λ k i none_half few. search rules

-- where this is read
abbrev pub stage_with : LineState → List OpenEscape → List (List ℕ) → Arguments → Stage
stage_with reading half texts a = record { reading = reading; escapes = half; arguments = a; texts = texts }

-- bytes that are held lead from stage to stage
pub turned-held : (most : Option ℕ) (names : Named Entry) (reading : LineState) (half : List OpenEscape) (texts : List (List ℕ)) (a : Arguments) (bytes : List ℕ)
    → half ≡ [] → due reading ≡ None → ((b : ℕ) → is_argument_byte b ≡ true → HoldsIfFewer most reading b)
    → AllByRecursion (λ b. is_argument_byte b ≡ true) bytes → HeldFewer most bytes a
    → Turned names (stage_with reading half texts a) bytes (stage_with reading half texts (bytes_held bytes a))
turned-held most names reading half texts a [] none_half none_due holds plain fewer = Here (stage_with reading half texts a)
turned-held most names reading half texts a (b ∷ bytes) none_half none_due holds plain fewer =
    let there : Arguments = only_kept (with_argument_byte a b) in
    let p : Stage = stage_with reading half texts a in
    Onward p (stage_with reading half texts there) (stage_with reading half texts (bytes_held bytes there)) b bytes none_due
    (ap (λ (h : List OpenEscape). is_ended_by h (Some b)) none_half)
    (λ k i. holds b plain.0 k (input_at names p i) none_half fewer.0) refl (omega (arith, held-byte_least a b)) (omega (arith, held-byte a b))
    (turned-held most names reading half texts there bytes none_half none_due holds plain.1 fewer.1)
