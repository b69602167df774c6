-- Words that are put into the form that the parser reads, one after another.
use Rattle.std.proofs.Common.{◌≡◌, ◌∙◌, ◌++◌, Bool, List, [], ◌∷◌, ap, append_assoc, length, map, sym, append-nil, ◌||◌, bytes_eq, codes}
use Rattle.std.proofs.lemmas.List.{map-append, nil_from_length}
use Rattle.clap.specs.Words.{Text}
use Rattle.cli_words.specs.Preparing.{word_prepared, words_prepared}

module _ {X : Type 0} (bytes : X → Text) where
  -- one more
  pub one_prepared : (done done' rest others : List X) (word made : X) (are_files files : Bool) (all : List Text)
      → rest ≡ word ∷ others → files ≡ (are_files || bytes_eq (bytes word) (codes "--")) → bytes made ≡ word_prepared files (bytes word)
      → done' ≡ done ++ made ∷ [] → map bytes done ++ words_prepared are_files (map bytes rest) ≡ all
      → map bytes done' ++ words_prepared files (map bytes others) ≡ all
  unfolding words_prepared
  one_prepared done done' rest others word made are_files files all rest_is files_are is grown so_far =
      ap (λ l. map bytes l ++ words_prepared files (map bytes others)) grown
      ∙ ap (λ l. l ++ words_prepared files (map bytes others)) (map-append bytes done (made ∷ []))
      ∙ append_assoc (map bytes done) (bytes made ∷ []) (words_prepared files (map bytes others))
      ∙ ap (λ w. map bytes done ++ w ∷ words_prepared files (map bytes others)) is
      ∙ ap (λ f. map bytes done ++ word_prepared f (bytes word) ∷ words_prepared f (map bytes others)) files_are
      ∙ ap (λ l. map bytes done ++ words_prepared are_files (map bytes l)) (sym rest_is)
      ∙ so_far

  -- all are
  pub all_prepared : (done rest : List X) (are_files : Bool) (all : List Text) → length rest ≡ 0
      → map bytes done ++ words_prepared are_files (map bytes rest) ≡ all → map bytes done ≡ all
  unfolding words_prepared
  all_prepared done rest are_files all none so_far =
      sym (append-nil (map bytes done)) ∙ sym (ap (λ l. map bytes done ++ words_prepared are_files (map bytes l)) (nil_from_length rest none)) ∙ so_far
