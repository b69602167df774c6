-- A command line without a fault names one of the commands.
use Rattle.std.proofs.Common.{◌≡◌, ◌≢◌, ◌∙◌, Bool, true, false, ◌||◌, ◌⊎◌, List, [], ◌∷◌, Option, Some, None, is_some, ap, inl, inr, refl, sym, subst, codes, fold, bytes_eq}
use Rattle.std.proofs.lemmas.Slice.Eq.{bytes_eq-Decides}
use Rattle.clap.specs.Faults.{check_fault, entered_fault, other_fault, turn_fault, walk_fault, word_fault}
use Rattle.clap.specs.Kinds.{Kinds, or_else}
use Rattle.clap.specs.Lexer.{long_of, short_of}
use Rattle.clap.specs.Simple.{App, Shape, argument_words, built, entered, label_of, names_of, rows_at}
use Rattle.clap.specs.Walk.{Held, Names, Outcome, Rule, Step, Text, Waiting, Walk, after_flag, after_step, answers_to, arg_by_index, done, finished, idle, long_or_other, next, nothing_held, option, plain, plain_word, positional, refused, short_or_plain, stop_after, subcommand, subcommand_met, subcommand_or_other, to_positional, trailing, value, waits, walk, walk_from, walked, walked_from, word_met}
use Rattle.clap.specs.Words.{HasMatchesOf, Row, fault_of, is_simple, subcommand_of, subcommand_rows_of}
use Rattle.clap.specs.declared.parser.matches.ArgMatches.{ArgMatches}
use Rattle.cli_words.proofs.CommandLine.{roff_app-is_simple}
use Rattle.cli_words.specs.CommandLine.{asked_by, asked_in, both_app, nroff_app, roff_app, tbl_app}

-- both lists are empty where the first that isn't would count
or_else-empty : (first second : Kinds) → or_else first second ≡ [] → (first ≡ []) × (second ≡ [])
or_else-empty [] second e = (refl, e)
or_else-empty (k ∷ ks) second e = cc

either : (a b : Bool) → (a || b) ≡ true → (a ≡ true) ⊎ (b ≡ true)
either true b e = inl refl
either false b e = inr e

-- the walk hasn't stopped at the command `help`
abbrev IsNotHelp : Option (Text × List Text) → Type 0
IsNotHelp None = Unit {0}
IsNotHelp (Some p) = p.0 ≢ codes "help"

-- the step goes down to no command
abbrev StaysHere : Step → Type 0
StaysHere (next waiting) = Unit {0}
StaysHere (trailing position) = Unit {0}
StaysHere (subcommand name) = ⊥
StaysHere value = Unit {0}

plain_word-StaysHere : (c : List Rule) (waiting : Waiting) (word : Text) (h : Held) → StaysHere (plain_word c waiting word h).1
plain_word-StaysHere c idle word h = tt
plain_word-StaysHere c (option id) word h = tt
plain_word-StaysHere c positional word h = tt

after_flag-StaysHere : (c : List Rule) (waiting : Waiting) (word : Text) (h : Held) (outcome : Outcome) → StaysHere (after_flag c waiting word h outcome).1
after_flag-StaysHere c waiting word h done = tt
after_flag-StaysHere c waiting word h (waits id) = tt
after_flag-StaysHere c waiting word h plain = plain_word-StaysHere c waiting word h
after_flag-StaysHere c waiting word h refused = plain_word-StaysHere c waiting word h

short_or_plain-StaysHere : (c : List Rule) (waiting : Waiting) (word : Text) (flags : Option Text) (h : Held) → StaysHere (short_or_plain c waiting word flags h).1
short_or_plain-StaysHere c waiting word (Some flags) h = after_flag-StaysHere c waiting word _ _
short_or_plain-StaysHere c waiting word None h = plain_word-StaysHere c waiting word h

long_or_other-StaysHere : (c : List Rule) (waiting : Waiting) (word : Text) (parts : Option (Text × Option Text)) (h : Held) → StaysHere (long_or_other c waiting word parts h).1
long_or_other-StaysHere c waiting word (Some p) h = after_flag-StaysHere c waiting word _ _
long_or_other-StaysHere c waiting word None h = short_or_plain-StaysHere c waiting word (short_of word) h

to_positional-IsNotHelp : (c : List Rule) (a : Option Rule) (word : Text) (w : Walk) (h : Held) → w.stopped ≡ None → IsNotHelp (to_positional c a word w h).stopped
to_positional-IsNotHelp c None word w h none = rw none tt
to_positional-IsNotHelp c (Some a) word w h none = tt

after_step-IsNotHelp : (c : List Rule) (word : Text) (w : Walk) (h : Held) (step : Step) → w.stopped ≡ None → StaysHere step → IsNotHelp (after_step c word w h step).stopped
after_step-IsNotHelp c word w h (next waiting) none stays = rw none tt
after_step-IsNotHelp c word w h (trailing position) none stays = rw none tt
after_step-IsNotHelp c word w h (subcommand name) none stays = absurd stays
after_step-IsNotHelp c word w h value none stays = to_positional-IsNotHelp c (arg_by_index c w.position) word w h none

-- a command that was met without a fault isn't `help`
other_fault-IsNotHelp : (s : Shape) (name word : Text) (h : Held) → s.disable_help_subcommand ≡ false → other_fault s (Some name) word h ≡ [] → name ≢ codes "help"
other_fault-IsNotHelp s name word h has_help empty is_help =
    let fault = rw (is_help, has_help) at empty in
    cc

met-IsNotHelp : (s : Shape) (names : Names) (w : Walk) (word : Text) (found : Option Text) → w.stopped ≡ None → s.disable_help_subcommand ≡ false
    → other_fault s found word w.held ≡ []
    → IsNotHelp (after_step s.rules word w (subcommand_or_other s.rules found w.waiting w.position word w.held).0 (subcommand_or_other s.rules found w.waiting w.position word w.held).1).stopped
met-IsNotHelp s names w word (Some name) none has_help empty = other_fault-IsNotHelp s name word w.held has_help empty
met-IsNotHelp s names w word None none has_help empty = go (bytes_eq word (45 ∷ 45 ∷ [])) refl
  where
    here : Held × Step
    here = subcommand_or_other s.rules None w.waiting w.position word w.held

    go : (b : Bool) → bytes_eq word (45 ∷ 45 ∷ []) ≡ b → IsNotHelp (after_step s.rules word w here.0 here.1).stopped
    go true e = rw e (rw none tt)
    go false e = rw e (after_step-IsNotHelp s.rules word w _ _ none (long_or_other-StaysHere s.rules w.waiting word (long_of word) w.held))

turn-IsNotHelp : (s : Shape) (names : Names) (w : Walk) (word : Text) → s.disable_help_subcommand ≡ false → IsNotHelp w.stopped
    → turn_fault s names w word ≡ [] → IsNotHelp (walked s.rules names w word).stopped
unfolding walked
turn-IsNotHelp s names w word has_help not_help empty = go w.stopped refl
  where
    stands : Bool → Type 0
    stands b = IsNotHelp (after_step s.rules word w (word_met s.rules names b w.waiting w.position word w.held).0 (word_met s.rules names b w.waiting w.position word w.held).1).stopped

    read : (b : Bool) → w.stopped ≡ None → word_fault s names b w.waiting word w.held ≡ [] → stands b
    read true none faultless = to_positional-IsNotHelp s.rules (arg_by_index s.rules w.position) word w w.held none
    read false none faultless = met-IsNotHelp s names w word (subcommand_met names w.waiting word) none has_help faultless

    walks : Option (Text × List Text) → Type 0
    walks o = IsNotHelp (walked_from s.rules names o w word).stopped

    go : (o : Option (Text × List Text)) → w.stopped ≡ o → IsNotHelp (walked_from s.rules names w.stopped w word).stopped
    go (Some p) e = subst walks (sym e) (rw e at not_help)
    go None e = subst walks (sym e) (read w.is_trailing e (or_else-empty _ _ (rw e at empty)).0)

walk-IsNotHelp : (s : Shape) (names : Names) (words : List Text) (w : Walk) → s.disable_help_subcommand ≡ false → IsNotHelp w.stopped
    → walk_fault s names w words ≡ [] → IsNotHelp (fold (walked s.rules names) w words).stopped
unfolding walk_fault
walk-IsNotHelp s names [] w has_help not_help empty = not_help
walk-IsNotHelp s names (word ∷ words) w has_help not_help empty =
    let both = or_else-empty (turn_fault s names w word) _ empty in
    walk-IsNotHelp s names words (walked s.rules names w word) has_help (turn-IsNotHelp s names w word has_help not_help both.0) both.1

-- the program as the parser builds it
abbrev whole : App
whole = built roff_app

whole-has_help : whole.top.disable_help_subcommand ≡ false
unfolding roff_app nroff_app tbl_app both_app
whole-has_help = refl

-- a command that was found: it is one of the program's
record Entered (found : Option (Text × List Row)) : Type 0 where
  name : Text
  rows : List Row
  is : found ≡ Some (name, rows)
  asks : is_some (asked_by name rows) ≡ true

-- the name is that of a command, and not of another one
no_alias : (s : Shape) (name word : Text) → s.name ≡ name → s.aliases ≡ [] → word ≢ name → answers_to word (label_of s) ≡ true → ⊥
no_alias s name word is none other e = elim (either (bytes_eq s.name word) _ e) [
  | inl same ↦ other (sym ((bytes_eq-Decides s.name word).0 same) ∙ is)
  | inr alias ↦ let bad = rw none at alias in cc
]

-- of four commands, one that isn't `help`
module _ (a : App) (n t b h : Shape) (p : Text × List Text) (subs : a.subs ≡ n ∷ t ∷ b ∷ h ∷ [])
    (nroff : n.name ≡ codes "nroff") (tbl : t.name ≡ codes "tbl") (both : b.name ≡ codes "both") (help : h.name ≡ codes "help") (no_aliases : h.aliases ≡ [])
    (not_help : p.0 ≢ codes "help") (some : is_some (entered a (Some p)) ≡ true) where
  met-help : (answers : Bool) → answers_to p.0 (label_of h) ≡ answers → answers_to p.0 (label_of n) ≡ false → answers_to p.0 (label_of t) ≡ false
      → answers_to p.0 (label_of b) ≡ false → ⊥
  met-help true e not_nroff not_tbl not_both = no_alias h (codes "help") p.0 help no_aliases not_help e
  met-help false e not_nroff not_tbl not_both =
      let bad = rw (subs, not_nroff, not_tbl, not_both, e) at some in
      cc

  met-both : (answers : Bool) → answers_to p.0 (label_of b) ≡ answers → answers_to p.0 (label_of n) ≡ false → answers_to p.0 (label_of t) ≡ false → Entered (entered a (Some p))
  met-both true e not_nroff not_tbl =
      record { name = codes "both"; rows = (rows_at b p.1).1; is = rw (subs, not_nroff, not_tbl, e, both) refl; asks = refl }
  met-both false e not_nroff not_tbl = absurd (met-help (answers_to p.0 (label_of h)) refl not_nroff not_tbl e)

  met-tbl : (answers : Bool) → answers_to p.0 (label_of t) ≡ answers → answers_to p.0 (label_of n) ≡ false → Entered (entered a (Some p))
  met-tbl true e not_nroff = record { name = codes "tbl"; rows = (rows_at t p.1).1; is = rw (subs, not_nroff, e, tbl) refl; asks = refl }
  met-tbl false e not_nroff = met-both (answers_to p.0 (label_of b)) refl not_nroff e

  met-nroff : (answers : Bool) → answers_to p.0 (label_of n) ≡ answers → Entered (entered a (Some p))
  met-nroff true e = record { name = codes "nroff"; rows = (rows_at n p.1).1; is = rw (subs, e, nroff) refl; asks = refl }
  met-nroff false e = met-tbl (answers_to p.0 (label_of t)) refl e

-- a command that the words go down to is one of the program's
entered-whole : (stop : Option (Text × List Text)) → IsNotHelp stop → is_some (entered whole stop) ≡ true → Entered (entered whole stop)
unfolding roff_app nroff_app tbl_app both_app
entered-whole None not_help some = cc
entered-whole (Some p) not_help some =
    met-nroff whole _ _ _ _ p refl refl refl refl refl refl not_help some (answers_to p.0 (label_of nroff_app.top)) refl

check-has_subcommand : (rows : List Row) (has : Bool) → check_fault whole.top rows has ≡ [] → has ≡ true
unfolding roff_app nroff_app tbl_app both_app
check-has_subcommand rows true empty = refl
check-has_subcommand rows false empty = cc

-- without a fault the words name one of the commands
faultless-subcommand_of : (words : List Text) → fault_of roff_app words ≡ [] → Entered (subcommand_of roff_app words)
faultless-subcommand_of words empty =
    let given = argument_words roff_app words in
    let stop = stop_after whole.top.rules (names_of whole) given in
    let walked_faultless = or_else-empty (walk_fault whole.top (names_of whole) (walk_from nothing_held) given) _ empty in
    let below = or_else-empty (entered_fault whole stop) _ walked_faultless.1 in
    let settled = or_else-empty _ _ below.1 in
    let defaults = or_else-empty _ _ settled.1 in
    entered-whole stop (walk-IsNotHelp whole.top (names_of whole) given (walk_from nothing_held) whole-has_help tt walked_faultless.0)
    (check-has_subcommand (finished whole.top.rules (walk whole.top.rules (names_of whole) nothing_held given).held) (is_some (entered whole stop)) defaults.1)

-- so what the parser finds asks for something
faultless-asked : (m : ArgMatches) (app : App) (words : List Text) → app ≡ roff_app → HasMatchesOf app words m → fault_of app words ≡ []
    → is_some (asked_in (subcommand_rows_of m)) ≡ true
faultless-asked m app words is has empty =
    let named = faultless-subcommand_of words (ap (λ (a : App). fault_of a words) (sym is) ∙ empty) in
    let matches = has (ap is_simple is ∙ roff_app-is_simple) in
    rw (matches.1 ∙ (ap (λ (a : App). subcommand_of a words) is ∙ named.is)) named.asks

-- where it asks for nothing there is a fault
pub nothing_asked-fault : (m : ArgMatches) (app : App) (words : List Text) → app ≡ roff_app → HasMatchesOf app words m
    → asked_in (subcommand_rows_of m) ≡ None → fault_of app words ≡ [] → ⊥
nothing_asked-fault m app words is has none empty =
    let asked = faultless-asked m app words is has empty in
    let bad = rw none at asked in
    cc
