-- The command line.
use Rattle.std.proofs.Common.{◌≡◌, ◌∙◌, ◌<◌, ◌+◌, ◌^◌, ℕ, Bool, true, false, not, ◌&&◌, is_some, List, [], ◌∷◌, map, take, get_or, length, nat_lt, ap, refl, sym, subst, Option, Some, None, option_map, lt-ltb, ltb-true, Box, IsErrAnd, MatchResult, Ok, Err, Result, decimal, fold, option_and_then, unwrap_or}
use Rattle.std.specs.Box.{box_value}
use Rattle.std.specs.Char.{digit_value}
use Rattle.std.specs.List.{list_all}
use Rattle.std.specs.Str.Parse.{AllDigits, ParsesUnsigned, digits_value, without_leading_plus}
use Rattle.std.specs.Borrow.{Bor}
use Rattle.std.proofs.lemmas.List.{map-append, take_more}
use Rattle.std.proofs.lemmas.List.Sums.{fold-append}
use Rattle.clap.specs.Walk.{is_empty}
use Rattle.clap.specs.Words.{ReadsOne, Row, Rule, Text, found_of, is_simple, is_simple_and_free, one_of, one_text, rows_of, rule_of, subcommand_name_of, subcommand_rows, subcommand_rows_of}
use Rattle.clap.specs.declared.builder.Arg.{Arg}
use Rattle.clap.specs.declared.builder.texts.Texts.TheVariants.{One}
use Rattle.clap.specs.declared.parser.matches.ArgMatches.{ArgMatches}
use Rattle.clap.specs.declared.parser.matches.ArgMatches.TheViews.{out-ArgMatches, out-SubCommand}
use Rattle.clap.specs.declared.parser.matches.Found.{Found}
use Rattle.clap.specs.declared.parser.matches.SubCommand.{SubCommand}
use Rattle.clap.proofs.OnLiterals.{clap_on_literals}
use Rattle.clap.proofs.SimpleLemmas.{is_false}
use Rattle.clap.proofs.WalkLemmas.{both, one_text-rows}
use Rattle.roff_num.specs.declared.limit.Limit.{Limit}
use Rattle.roff_num.specs.Clauses.{limit_name}
use Rattle.cli_words.specs.CommandLine.{both_app, nroff_app, number_of, number_option, roff_app, set_by, set_if_asked, tbl_app}

-- the words of the command line give its matches
pub roff_app-is_simple : is_simple roff_app ≡ true
unfolding clap_on_literals roff_app nroff_app tbl_app both_app
roff_app-is_simple = refl

-- and no argument has a rule on another
pub roff_app-is_free : is_simple_and_free roff_app ≡ true
unfolding clap_on_literals roff_app nroff_app tbl_app both_app
roff_app-is_free = refl

-- `?` passes an error up as it is
pub passed-MatchResult : {T E : Type 0} (r : Result T E) (e : E) (P : T → Type 0) (Q : E → Type 0) → IsErrAnd r (λ y. y ≡ e) → Q e → MatchResult r P Q
passed-MatchResult (Ok x) e P Q is q = absurd is
passed-MatchResult (Err y) e P Q is q = subst Q (sym is) q

-- an argument whose rule is simple belongs to its command alone
pub simple-global : (a : Arg) → (rule_of a).is_simple ≡ true → a.global ≡ false
simple-global a e =
    let not_global = not a.last && not a.global in
    let no_equals = not a.require_equals && not_global in
    let no_negatives = not a.allow_negative_numbers && no_equals in
    let no_hyphens = not a.allow_hyphen_values && no_negatives in
    let no_terminator = not (is_some a.terminator) && no_hyphens in
    let no_delimiter = not (is_some a.val_delim) && no_terminator in
    let no_groups = is_empty a.groups.items && no_delimiter in
    let no_conditions = is_empty a.default_vals_ifs.items && no_groups in
    let conditions = both (is_empty a.overrides.items) no_conditions e in
    let groups = both (is_empty a.default_vals_ifs.items) no_groups conditions.1 in
    let delimiter = both (is_empty a.groups.items) no_delimiter groups.1 in
    let terminator = both (not (is_some a.val_delim)) no_terminator delimiter.1 in
    let hyphens = both (not (is_some a.terminator)) no_hyphens terminator.1 in
    let negatives = both (not a.allow_hyphen_values) no_negatives hyphens.1 in
    let equals = both (not a.allow_negative_numbers) no_equals negatives.1 in
    let last = both (not a.require_equals) not_global equals.1 in
    is_false a.global (both (not a.last) (not a.global) last.1).1

-- an option that is given a default, which is the text of a number
pub given_default-rule : (a b : Arg) (name : Text) (text : Bor Text) (n : ℕ) → text.now ≡ decimal n → b ≡ record a { default_vals = One text }
    → rule_of a ≡ number_option name None → rule_of b ≡ number_option name (Some n)
given_default-rule a b name text n is given rule =
    ap rule_of given ∙ (ap (λ (r : Rule). record r { defaults = text.now ∷ [] }) rule
    ∙ ap (λ (t : Text). record (number_option name None) { defaults = t ∷ [] }) is)

-- one that is given the default that is shown, or none where none is
module _ (a : Arg) (name : Text) (shown : Option (Bor Text)) (rule : rule_of a ≡ number_option name None) where
  pub shown_default-rule : (b : Arg) (text : Bor Text) (default : Option ℕ) → option_map (λ t. t.now) shown ≡ option_map decimal default → shown ≡ Some text
      → b ≡ record a { default_vals = One text } → rule_of b ≡ number_option name default
  shown_default-rule b text None are is given = cc
  shown_default-rule b text (Some n) are is given =
      let same : Some text.now ≡ Some (decimal n) = ap (option_map (λ t. t.now)) (sym is) ∙ are in
      let text_is : text.now ≡ decimal n = cc in
      given_default-rule a b name text n text_is given rule

  pub no_default-rule : (default : Option ℕ) → option_map (λ t. t.now) shown ≡ option_map decimal default → shown ≡ None → rule_of a ≡ number_option name default
  no_default-rule None are is = rule
  no_default-rule (Some n) are is = cc

-- a fold over one item more
pub fold-take-more : {A B X : Type 0} (f : B → A → B) (b : B) (of : X → A) (xs : List X) (i : ℕ) (d : X) → i < length xs
    → fold f b (map of (take (i + 1) xs)) ≡ f (fold f b (map of (take i xs))) (of (get_or xs i d))
fold-take-more f b of xs i d within =
    rw (take_more xs i d within, map-append of (take i xs) (get_or xs i d ∷ []), fold-append f b (map of (take i xs)) (of (get_or xs i d) ∷ [])) refl

digits_pass : (digits : List ℕ) → AllDigits 10 digits → list_all (λ d. nat_lt (digit_value d) 10) digits ≡ true
digits_pass [] h = refl
digits_pass (d ∷ digits) h = rw (lt-ltb (digit_value d) 10 h.0) (digits_pass digits h.1)

digits_from : (digits : List ℕ) → list_all (λ d. nat_lt (digit_value d) 10) digits ≡ true → AllDigits 10 digits
digits_from [] e = tt
digits_from (d ∷ digits) e =
    let parts = both _ _ e in
    (ltb-true _ _ parts.0, digits_from digits parts.1)

abbrev is_number : List ℕ → Bool
is_number digits = nat_lt 0 (length digits) && list_all (λ d. nat_lt (digit_value d) 10) digits && nat_lt (digits_value 10 digits) (2 ^ 32)

-- what a text is read as at 32 bits
read-number_of : {E : Type 0} (G : List ℕ → Result ℕ E → Type 0) (text : Text) (r : Option ℕ)
    → ((u : List ℕ) (x : Result ℕ E) → G u x → ParsesUnsigned 32 10 u x) → ReadsOne G text r → r ≡ number_of text
read-number_of G text (Some n) only read =
    let digits = without_leading_plus text in
    let h = only text (Ok n) read in
    rw (lt-ltb 0 (length digits) h.0.0.0, digits_pass digits h.0.0.1, lt-ltb (digits_value 10 digits) (2 ^ 32) h.0.1) (ap Some h.1)
read-number_of G text None only read = go (is_number (without_leading_plus text)) refl
  where
    go : (b : Bool) → is_number (without_leading_plus text) ≡ b → None ≡ number_of text
    go false t = rw t refl
    go true t =
        let outer = both _ _ t in
        let inner = both _ _ outer.0 in
        absurd (only text (Err read.0) read.1 ((ltb-true _ _ inner.0, digits_from (without_leading_plus text) inner.1), ltb-true _ _ outer.1))

-- what the parser reads of an option
pub one-number_of : {E : Type 0} (G : List ℕ → Result ℕ E → Type 0) (f : Found) (id : Text) (r : Option ℕ)
    → ((u : List ℕ) (x : Result ℕ E) → G u x → ParsesUnsigned 32 10 u x)
    → (one_text f id ≡ None → r ≡ None) → ((t : List ℕ) → one_text f id ≡ Some t → ReadsOne G t r)
    → r ≡ option_and_then number_of (one_of id (rows_of f))
one-number_of G f id r only none some = rw (← one_text-rows f id) (go (one_text f id) refl)
  where
    go : (o : Option Text) → one_text f id ≡ o → r ≡ option_and_then number_of (one_text f id)
    go None e = none e ∙ rw e refl
    go (Some t) e = read-number_of G t r only (some t e) ∙ rw e refl

-- one option more
pub asked-next : {L X : Type 0} (set_one : L → Limit → ℕ → L) (of : X → Limit) (rows : List Row) (options : List X) (i : ℕ) (d : X) (name : Text) (n : Option ℕ)
    (default now next : L) → i < length options → next ≡ set_if_asked set_one now (of (get_or options i d)) n
    → name ≡ limit_name (of (get_or options i d)) → n ≡ option_and_then number_of (one_of name rows)
    → now ≡ fold (set_by set_one rows) default (map of (take i options))
    → next ≡ fold (set_by set_one rows) default (map of (take (i + 1) options))
asked-next set_one of rows options i d name n default now next within set named number so_far =
    let limit = of (get_or options i d) in
    set ∙ (ap (set_if_asked set_one now limit) (number ∙ ap (λ id. option_and_then number_of (one_of id rows)) named)
    ∙ (ap (λ l. set_by set_one rows l limit) so_far ∙ sym (fold-take-more (set_by set_one rows) default of options i d within)))

-- the texts that the parser lends
pub lent-texts : (lent : Option (Bor (List (Bor (List ℕ))))) (other : Bor (List (Bor (List ℕ)))) (found : Option (List Text)) → other.now ≡ []
    → option_map (λ s. map (λ v. v.now) s.now) lent ≡ found → map (λ v. v.now) (unwrap_or lent other).now ≡ unwrap_or found []
lent-texts None other found empty is = rw (← is, empty) refl
lent-texts (Some s) other found empty is = rw (← is) refl

-- the command that was found, with its rows
pub found-rows : (m : ArgMatches) (name : Text) (rows : List Row) → subcommand_name_of m ≡ Some name
    → option_map (λ p. p.1) (subcommand_rows_of m) ≡ Some rows → subcommand_rows_of m ≡ Some (name, rows)
found-rows m name rows named found = go (out-ArgMatches m).subcommand named found
  where
    go : {Z : Type 0} (o : Option (Box SubCommand Z)) → option_map (λ b. (out-SubCommand (box_value b)).name.now) o ≡ Some name
        → option_map (λ p. p.1) (subcommand_rows o) ≡ Some rows → subcommand_rows o ≡ Some (name, rows)
    go None e r = cc
    go (Some b) e r =
        let name_is : (out-SubCommand (box_value b)).name.now ≡ name = cc in
        let rows_are : rows_of (found_of (out-SubCommand (box_value b)).matches) ≡ rows = cc in
        rw (name_is, rows_are) refl
