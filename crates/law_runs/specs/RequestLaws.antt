-- Laws over the table of requests.
use Rattle.std.specs.Prelude.{◌≡◌, ℕ, Bool, List, [], ◌∷◌, length, bytes_eq, count_by, Contains, Some}
use Rattle.run_model.specs.declared.message.Message.TheVariants.{LeftOut as SaysLeftOut}
use Rattle.run_model.specs.declared.request.Request.{Request}
use Rattle.run_model.specs.declared.request.Request.TheVariants.{WithoutEffect, LeftOut}
use Rattle.run_model.specs.Requests.{Known, doing, saying, first_entries, requests, names_without_effect, names_left_out, request_named, request_effect, row_of}

-- the name of a request
abbrev pub name_of : Request → List ℕ
name_of request = (row_of request).name

-- a request stands in the table: each that is built, and the others by their names
abbrev pub IsListed : Request → Type 0
IsListed (WithoutEffect name) = Contains names_without_effect name
IsListed (LeftOut name) = Contains names_left_out name
IsListed (_) = Unit {0}

-- each of them is the one of its name, before anything is read
abbrev pub EachIsNamed : Type 0
EachIsNamed = (request : Request) → IsListed request → request_named (name_of request) first_entries ≡ Some request

-- each name stands in the table once
abbrev pub EachIsListedOnce : Type 0
EachIsListedOnce =
    (request : Request) → IsListed request → count_by (λ other. bytes_eq (name_of other) (name_of request)) requests ≡ 1

-- each name has two bytes
abbrev pub EachNameHasTwoBytes : Type 0
EachNameHasTwoBytes = (request : Request) → IsListed request → length (name_of request) ≡ 2

-- a request without effect does nothing, whatever is known and given, and doesn't break
abbrev pub WithoutEffectDoesNothing : Type 0
WithoutEffectDoesNothing =
    (k : Known) (breaks : Bool) (name : List ℕ) (as_given : List (List ℕ)) →
    request_effect k breaks (WithoutEffect name) as_given ≡ doing []

-- one that is left out does nothing but say so
abbrev pub LeftOutOnlySaysSo : Type 0
LeftOutOnlySaysSo =
    (k : Known) (breaks : Bool) (name : List ℕ) (as_given : List (List ℕ)) →
    request_effect k breaks (LeftOut name) as_given ≡ saying (SaysLeftOut name ∷ []) []
