-- The newest of the texts in the making, one of a number among them, and calls on them.
use Rattle.std.proofs.Common.{◌≡◌, ◌++◌, ◌+◌, ℕ, true, false, Bool, List, [], ◌∷◌, length, length-append, append-nil, get_or, set, Option, Some, None, arith, refl, sym, ◌∙◌, ap, subst, nat_lt, if◌then◌else◌, lt-ltb}
use Rattle.std.specs.List.{remove}
use Rattle.input_model.specs.Input.Names.{adding, calling, calling_on, dropping, entering, open_numbered, texts_of}
use Rattle.run_model.specs.Reading.Items.{PageInput}
use Rattle.roff_store.specs.TextCalls.{Call, DropOpen, Enter, PushOpen, open_text}
use Rattle.roff_store.specs.Texts.{newest}
use Rattle.law_diversions.specs.DivertedTexts.{IsAbove, NoneAbove, OneAbove}

-- the one behind so many others
pub remove-at : (front : List (List ℕ)) (text : List ℕ) (back : List (List ℕ))
    → remove (front ++ text ∷ back) (length front) ≡ front ++ back
remove-at [] text back = refl
remove-at (first ∷ front) text back = ap (λ (rest : List (List ℕ)). first ∷ rest) (remove-at front text back)

pub set-at : (front : List (List ℕ)) (text : List ℕ) (back : List (List ℕ)) (new : List ℕ)
    → set (front ++ text ∷ back) (length front) new ≡ front ++ new ∷ back
set-at [] text back new = refl
set-at (first ∷ front) text back new = ap (λ (rest : List (List ℕ)). first ∷ rest) (set-at front text back new)

pub get_or-at : (front : List (List ℕ)) (text : List ℕ) (back : List (List ℕ)) → get_or (front ++ text ∷ back) (length front) [] ≡ text
get_or-at [] text back = refl
get_or-at (first ∷ front) text back = get_or-at front text back

-- it is there
pub is-there : (front : List (List ℕ)) (text : List ℕ) (back : List (List ℕ)) (i : PageInput) → i.open_texts ≡ front ++ text ∷ back
    → open_numbered (length front) i ≡ Some (length front)
is-there front text back i is =
    let more : length i.open_texts ≡ length front + length (text ∷ back) = ap length is ∙ length-append front (text ∷ back) in
    let below : nat_lt (length front) (length i.open_texts) ≡ true = lt-ltb (length front) (length i.open_texts) (omega (arith, more)) in
    ap (λ (c : Bool). if c then Some (length front) else None) below

-- the newest
newest-at : (front : List (List ℕ)) (text : List ℕ) → newest (front ++ text ∷ []) ≡ Some (length front)
newest-at [] text = refl
newest-at (first ∷ front) text =
    let same : length (front ++ text ∷ []) ≡ length (first ∷ front) =
    omega (arith, length-append front (text ∷ [])) in ap (λ (n : ℕ). Some n) same

-- a call on it
called-newest : (call : ℕ → Call) (front : List (List ℕ)) (text : List ℕ) (i : PageInput) → i.open_texts ≡ front ++ text ∷ []
    → calling_on call (newest i.open_texts) i ≡ calling (call (length front)) i
called-newest call front text i is = ap (λ (id : Option ℕ). calling_on call id i) (ap newest is ∙ newest-at front text)

-- bytes are put behind it
pub above-adding : (front : List (List ℕ)) (text bytes : List ℕ) (i : PageInput) → i.open_texts ≡ front ++ text ∷ []
    → IsAbove front true (adding bytes i).open_texts
above-adding front text bytes i is =
    let new : List ℕ = open_text (length front) (texts_of i) ++ bytes in
    let put : set i.open_texts (length front) new ≡ front ++ new ∷ [] =
    ap (λ (texts : List (List ℕ)). set texts (length front) new) is ∙ set-at front text [] new in
    subst (λ (j : PageInput). IsAbove front true j.open_texts) (sym (called-newest (λ id. PushOpen id bytes) front text i is))
    (subst (IsAbove front true) (sym put) (OneAbove new))

-- it goes
gone : (front : List (List ℕ)) (text : List ℕ) (texts : List (List ℕ)) → texts ≡ front ++ text ∷ []
    → IsAbove front false (remove texts (length front))
gone front text texts is =
    let others : remove texts (length front) ≡ front =
    ap (λ (texts : List (List ℕ)). remove texts (length front)) is ∙ remove-at front text [] ∙ append-nil front in
    subst (IsAbove front false) (sym others) NoneAbove

pub above-entering : (front : List (List ℕ)) (text name : List ℕ) (appends : Bool) (i : PageInput) → i.open_texts ≡ front ++ text ∷ []
    → IsAbove front false (entering name appends i).open_texts
above-entering front text name appends i is =
    subst (λ (j : PageInput). IsAbove front false j.open_texts) (sym (called-newest (λ id. Enter id name appends) front text i is))
    (gone front text i.open_texts is)

pub above-dropping : (front : List (List ℕ)) (text : List ℕ) (i : PageInput) → i.open_texts ≡ front ++ text ∷ []
    → IsAbove front false (dropping i).open_texts
above-dropping front text i is =
    subst (λ (j : PageInput). IsAbove front false j.open_texts) (sym (called-newest (λ id. DropOpen id) front text i is))
    (gone front text i.open_texts is)

-- what stands above
pub above-one : (below texts : List (List ℕ)) → IsAbove below true texts → (text : List ℕ) × (texts ≡ below ++ text ∷ [])
above-one below _ (OneAbove text) = (text, refl)

-- the same with other names for it
pub above-same : (below : List (List ℕ)) (making now : Bool) (old texts : List (List ℕ)) → IsAbove below making old → texts ≡ old
    → now ≡ making
    → IsAbove below now texts
above-same below making now old texts above same made =
    subst (λ (c : Bool). IsAbove below c texts) (sym made) (subst (IsAbove below making) (sym same) above)
