-- Bytes of a front that are held in the first argument of a line, of which none ends it.
use Rattle.std.proofs.Common.{◌≡◌, ℕ, ◌+◌, ◌≤◌, ◌==◌, Bool, true, false, Option, List, [], ◌∷◌, ◌++◌, length, take, drop, inl, inr, refl, sym, ap, subst, ◌∙◌, take-append-drop, take-take}
use Rattle.std.specs.List.{AllByRecursion}
use Rattle.std.proofs.Math.Seq.{take-add}
use Rattle.std.proofs.lemmas.Bool.{and_parts}
use Rattle.input_model.specs.Arguments.{Arguments, is_behind_quote}
use Rattle.input_model.specs.declared.place.Place.{Place}
use Rattle.input_model.specs.declared.place.Place.TheVariants.{Between}
use Rattle.input_arguments.specs.ArgumentTexts.Kept.{StopsAt}
use Rattle.input_source.specs.Bytes.{blank}
use Rattle.input_model.specs.Input.{is_none_ahead}
use Rattle.input_model.specs.Looking.{is_nothing}
use Rattle.input_model.specs.Unread.{Unread, asks_to_take}
use Rattle.input_model.specs.declared.looked.Looked.TheVariants.{Nothing}
use Rattle.roff_scan.specs.Unread.FirstArguments.{MayStand, Unended, first_argument, first_room, is_inside}
use Rattle.roff_scan.proofs.Fronts.{nothing_looked}

-- bytes of an argument don't end it
unended-inside : (none_begun : Bool) (bytes : List ℕ) → AllByRecursion (λ b. is_inside b ≡ true) bytes → Unended none_begun bytes
unended-inside none_begun [] are = tt
unended-inside none_begun (b ∷ bytes) are = inr (are.0, unended-inside false bytes are.1)

-- nor do blanks in front of them, where none is begun
unended-blanks : (blanks bytes : List ℕ) → AllByRecursion (λ b. (b == blank) ≡ true) blanks → AllByRecursion (λ b. is_inside b ≡ true) bytes
    → Unended true (blanks ++ bytes)
unended-blanks [] bytes are others = unended-inside true bytes others
unended-blanks (b ∷ blanks) bytes are others = inl (are.0, (refl, unended-blanks blanks bytes are.1 others))

-- nor do the first of bytes that don't
unended-front : (none_begun : Bool) (front behind : List ℕ) → Unended none_begun (front ++ behind) → Unended none_begun front
unended-front none_begun [] behind unended = tt
unended-front none_begun (b ∷ front) behind (inl is) = inl (is.0, (is.1.0, unended-front none_begun front behind is.1.1))
unended-front none_begun (b ∷ front) behind (inr is) = inr (is.0, unended-front false front behind is.1)

pub unended-take : (none_begun : Bool) (front : List ℕ) (count : ℕ) → Unended none_begun front → Unended none_begun (take count front)
unended-take none_begun front count unended =
    unended-front none_begun (take count front) (drop count front) (subst (Unended none_begun) (sym (take-append-drop count front)) unended)

-- blanks and then bytes of an argument
pub unended-parts : (bytes : List ℕ) (blanks others : ℕ) → AllByRecursion (λ b. (b == blank) ≡ true) (take blanks bytes)
    → AllByRecursion (λ b. is_inside b ≡ true) (take others (drop blanks bytes)) → Unended true (take (blanks + others) bytes)
unended-parts bytes blanks others are inside =
    subst (Unended true) (sym (take-add blanks others bytes)) (unended-blanks (take blanks bytes) (take others (drop blanks bytes)) are inside)

pub unended-alone : (bytes : List ℕ) (others : ℕ) → AllByRecursion (λ b. is_inside b ≡ true) (take others bytes) → Unended false (take others bytes)
unended-alone bytes others inside = unended-inside false (take others bytes) inside

-- where the reading stands in front
pub may-stand : (none_begun : Bool) (place : Place) → (none_begun ≡ true → place ≡ Between) → is_behind_quote place ≡ false → MayStand none_begun place
may-stand true place between other = between refl
may-stand false place between other = other

-- the first of bytes that were lent are the first of those that come next
pub cut_of_front : (front bytes next : List ℕ) → front ≡ take (length front) bytes → length front ≤ length bytes → bytes ≡ take (length bytes) next → front ≡ take (length front) next
cut_of_front front bytes next cut few is = cut ∙ ap (take (length front)) is ∙ take-take (length front) (length bytes) next few

pub stands-between : (none_begun : Bool) (place : Place) → (none_begun ≡ false → place ≡ Between → ⊥) → place ≡ Between → none_begun ≡ true
stands-between true place others is = refl
stands-between false place others is = absurd (others refl is)

-- what stops the taking of bytes that were lent stops that of those that stand ready
pub stops-cut : {E : Type 0} (most : Option ℕ) (none_begun : Bool) (ready : List ℕ) (u : Unread E) (bytes front : List ℕ) (room count : ℕ) (a : Arguments)
    → front ≡ first_argument none_begun bytes → (is_none_ahead u.input.ahead ≡ true → u.looked ≡ Nothing → bytes ≡ take room ready)
    → room ≡ first_room u → asks_to_take u ≡ true → StopsAt most front count a → StopsAt most (first_argument none_begun (take (first_room u) ready)) count a
stops-cut most none_begun ready u bytes front room count a cut whole is_room asks stops =
    let parts = and_parts (is_none_ahead u.input.ahead) (is_nothing u.looked) asks in
    let are : bytes ≡ take (first_room u) ready = whole parts.0 (nothing_looked u.looked parts.1) ∙ ap (λ (n : ℕ). take n ready) is_room in
    subst (λ (xs : List ℕ). StopsAt most xs count a) (cut ∙ ap (first_argument none_begun) are) stops
