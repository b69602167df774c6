-- Lines that call bodies, bodies that spring, the arguments of calls, and the results of conditions that are kept (manual, section 7).
use Rattle.std.specs.Prelude.{ℕ, Bool, false, List, [], ◌∷◌, ◌++◌, drop, length, map, Option, Some, None, if◌then◌else◌, ◌==◌, not, get_or, reverse}
use Rattle.input_model.specs.Arguments.{no_arguments, only_kept, finished}
use Rattle.input_source.specs.Bytes.{newline}
use Rattle.input_model.specs.Input.{Input, ByteAhead, ReturnAhead}

-- whether a body has bytes, and no newline at its end
abbrev pub lacks_newline : List ℕ → Bool
lacks_newline body = elim (reverse body) [ [] ↦ false | last ∷ others ↦ not (last == newline) ]

-- a body as it is read where a line calls it: one that has bytes ends in a newline
abbrev pub called_text : List ℕ → List ℕ
called_text body = if lacks_newline body then body ++ newline ∷ [] else body

-- the arguments that a line was given, once it has ended
abbrev pub arguments_given : {E : Type 0} → Input E → List (List ℕ)
arguments_given i = reverse (only_kept (finished i.arguments)).whole

-- a line calls a body with the arguments that it was given: it is put in front, and its end
abbrev pub calling_body : {E : Type 0} → List ℕ → Input E → Input E
calling_body body i = record i {
  ahead = map ByteAhead (called_text body) ++ ReturnAhead 0 ∷ i.ahead;
  calls = arguments_given i ∷ i.calls;
  arguments = no_arguments;
}

-- A body that sprang is put in front, and behind it an end that leads back to what this code stands for. No arguments are in
-- force in it; those of a line that is half read stay as they are.
abbrev pub springing : {E : Type 0} → List ℕ → ℕ → Input E → Input E
springing body back i = record i {
  ahead = map ByteAhead (called_text body) ++ ReturnAhead back ∷ i.ahead;
  calls = [] ∷ i.calls;
}

-- the arguments of the innermost call that isn't over
abbrev pub arguments_live : {E : Type 0} → Input E → List (List ℕ)
arguments_live i = elim i.calls [ [] ↦ [] | arguments ∷ calls ↦ arguments ]

-- the argument of that call at an index, from 0 on; one that it wasn't given is empty
abbrev pub argument_live : {E : Type 0} → ℕ → Input E → List ℕ
argument_live index i = get_or (arguments_live i) index []

-- a result is kept
abbrev pub with_result : {E : Type 0} → Bool → Input E → Input E
with_result so i = record i { results = (so, length i.calls) ∷ i.results }

-- the result that was kept last, if one is
abbrev pub last_result : {E : Type 0} → Input E → Option Bool
last_result i = elim i.results [ [] ↦ None | result ∷ others ↦ Some result.0 ]

-- it is kept no more
abbrev pub without_last : {E : Type 0} → Input E → Input E
without_last i = record i { results = drop 1 i.results }
