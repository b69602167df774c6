-- Each request of the table is the one of its name, and stands there once.
use Rattle.std.proofs.Common.{◌≡◌, ℕ, List, bytes_eq, refl, Some, count_by, Contains}
use Rattle.std.specs.List.{AllByRecursion}
use Rattle.std.proofs.lemmas.List.Elements.{All-contains, All-from_recursion}
use Rattle.law_runs.specs.RequestLaws.{EachIsNamed, EachIsListedOnce, name_of}
use Rattle.run_model.specs.Requests.{first_entries, names_without_effect, names_left_out, requests, request_named}
use Rattle.run_model.specs.declared.request.Request.{Request}
use Rattle.run_model.specs.declared.request.Request.TheVariants.{WithoutEffect, LeftOut}

-- a name is that of the request that is made with it
abbrev IsNamed : (List ℕ → Request) → List ℕ → Type 0
IsNamed made name = request_named name first_entries ≡ Some (made name)

-- a name stands in the table once
abbrev IsListedOnce : List ℕ → Type 0
IsListedOnce name = count_by (λ other. bytes_eq (name_of other) name) requests ≡ 1

-- what holds of each name of a list holds of a name that it has
of_listed : (P : List ℕ → Type 0) (names : List (List ℕ)) → AllByRecursion P names → (name : List ℕ) → Contains names name → P name
of_listed P names each name listed = All-contains P names name (All-from_recursion P names each) listed

-- by each request that is built, and by the names of the others
pub each_named : EachIsNamed
each_named (WithoutEffect name) listed = of_listed (IsNamed WithoutEffect) names_without_effect (search) name listed
each_named (LeftOut name) listed = of_listed (IsNamed LeftOut) names_left_out (search) name listed
each_named (_) listed = refl

-- the same of how often each name stands there
pub each_listed_once : EachIsListedOnce
each_listed_once (WithoutEffect name) listed = of_listed IsListedOnce names_without_effect (search) name listed
each_listed_once (LeftOut name) listed = of_listed IsListedOnce names_left_out (search) name listed
each_listed_once (_) listed = refl
