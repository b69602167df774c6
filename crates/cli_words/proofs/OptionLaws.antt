-- Limits and their options.
use Rattle.std.proofs.Common.{◌≡◌, ◌∙◌, ◌⊎◌, ℕ, List, [], ◌∷◌, Option, Some, None, ap, inl, inr, refl, sym, fold, unwrap_or}
use Rattle.clap.specs.Words.{Row}
use Rattle.roff_num.specs.declared.limit.Limit.{Limit}
use Rattle.roff_num.specs.declared.limit.Limit.TheVariants.{Bytes, Stack, Depth, Line, Traps, Diversions, Environments, Conditions, Output, Store, Names, Rows, Columns, Text, Width, TblBytes, Messages}
use Rattle.roff_num.specs.declared.limits.Limits.{Limits}
use Rattle.roff_num.specs.Clauses.{default_limits, limits_with, value_of}
use Rattle.tbl_format.specs.declared.limits.TblLimits.{TblLimits}
use Rattle.tbl_format.specs.TblLimits.{default_tbl_limits, tbl_limits_with, tbl_value_of}
use Rattle.cli_words.specs.CommandLine.{EachOptionSetsItsLimit, limits_asked, number_asked, option_limits, set_by, set_if_asked, tbl_limits, tbl_limits_asked}

-- a limit that is set to the value that it has changes nothing
limits_with-same : (l : Limits) (limit : Limit) → limits_with l limit (value_of l limit) ≡ l
limits_with-same l Bytes = refl
limits_with-same l Stack = refl
limits_with-same l Depth = refl
limits_with-same l Line = refl
limits_with-same l Traps = refl
limits_with-same l Diversions = refl
limits_with-same l Environments = refl
limits_with-same l Conditions = refl
limits_with-same l Output = refl
limits_with-same l Store = refl
limits_with-same l Names = refl
limits_with-same l Rows = refl
limits_with-same l Columns = refl
limits_with-same l Text = refl
limits_with-same l Width = refl
limits_with-same l TblBytes = refl
limits_with-same l Messages = refl

tbl_limits_with-same : (l : TblLimits) (limit : Limit) → tbl_limits_with l limit (tbl_value_of l limit) ≡ l
tbl_limits_with-same l Bytes = refl
tbl_limits_with-same l Stack = refl
tbl_limits_with-same l Depth = refl
tbl_limits_with-same l Line = refl
tbl_limits_with-same l Traps = refl
tbl_limits_with-same l Diversions = refl
tbl_limits_with-same l Environments = refl
tbl_limits_with-same l Conditions = refl
tbl_limits_with-same l Output = refl
tbl_limits_with-same l Store = refl
tbl_limits_with-same l Names = refl
tbl_limits_with-same l Rows = refl
tbl_limits_with-same l Columns = refl
tbl_limits_with-same l Text = refl
tbl_limits_with-same l Width = refl
tbl_limits_with-same l TblBytes = refl
tbl_limits_with-same l Messages = refl

-- limits of a kind: how one is set, and its value
module _ {L : Type 0} (set : L → Limit → ℕ → L) (value : L → Limit → ℕ) (same : (l : L) (limit : Limit) → set l limit (value l limit) ≡ l) where
  -- the limits with one of them set to this number, or to what it was
  abbrev set_or_same : (Limit → Option ℕ) → L → Limit → L
  set_or_same number l limit = set l limit (unwrap_or (number limit) (value l limit))

  set_if_asked-or_same : (l : L) (limit : Limit) (n : Option ℕ) → set_if_asked set l limit n ≡ set l limit (unwrap_or n (value l limit))
  set_if_asked-or_same l limit (Some n) = refl
  set_if_asked-or_same l limit None = sym (same l limit)

  -- the same of several
  fold-or_same : (rows : List Row) (l : L) (options : List Limit) → fold (set_by set rows) l options ≡ fold (set_or_same (number_asked rows)) l options
  fold-or_same rows l [] = refl
  fold-or_same rows l (limit ∷ options) =
      ap (λ l'. fold (set_by set rows) l' options) (set_if_asked-or_same l limit (number_asked rows limit)) ∙ fold-or_same rows (set_or_same (number_asked rows) l limit) options

-- the options set the default limits one by one
default_or_same : (number : Limit → Option ℕ) (limit : Limit)
    → (value_of (fold (set_or_same limits_with value_of limits_with-same number) default_limits option_limits) limit ≡ unwrap_or (number limit) (value_of default_limits limit))
    ⊎ ((l : Limits) → value_of l limit ≡ 0)
default_or_same number Bytes = inl refl
default_or_same number Stack = inl refl
default_or_same number Depth = inl refl
default_or_same number Line = inl refl
default_or_same number Traps = inl refl
default_or_same number Diversions = inl refl
default_or_same number Environments = inl refl
default_or_same number Conditions = inl refl
default_or_same number Output = inl refl
default_or_same number Store = inl refl
default_or_same number Names = inl refl
default_or_same number Rows = inr (λ l. refl)
default_or_same number Columns = inr (λ l. refl)
default_or_same number Text = inr (λ l. refl)
default_or_same number Width = inr (λ l. refl)
default_or_same number TblBytes = inr (λ l. refl)
default_or_same number Messages = inl refl

tbl_default_or_same : (number : Limit → Option ℕ) (limit : Limit)
    → (tbl_value_of (fold (set_or_same tbl_limits_with tbl_value_of tbl_limits_with-same number) default_tbl_limits tbl_limits) limit
    ≡ unwrap_or (number limit) (tbl_value_of default_tbl_limits limit))
    ⊎ ((l : TblLimits) → tbl_value_of l limit ≡ 0)
tbl_default_or_same number Bytes = inr (λ l. refl)
tbl_default_or_same number Stack = inr (λ l. refl)
tbl_default_or_same number Depth = inr (λ l. refl)
tbl_default_or_same number Line = inr (λ l. refl)
tbl_default_or_same number Traps = inr (λ l. refl)
tbl_default_or_same number Diversions = inr (λ l. refl)
tbl_default_or_same number Environments = inr (λ l. refl)
tbl_default_or_same number Conditions = inr (λ l. refl)
tbl_default_or_same number Output = inl refl
tbl_default_or_same number Store = inr (λ l. refl)
tbl_default_or_same number Names = inr (λ l. refl)
tbl_default_or_same number Rows = inl refl
tbl_default_or_same number Columns = inl refl
tbl_default_or_same number Text = inl refl
tbl_default_or_same number Width = inl refl
tbl_default_or_same number TblBytes = inl refl
tbl_default_or_same number Messages = inl refl

-- so each option sets its limit
pub each_option_sets_its_limit : EachOptionSetsItsLimit value_of limits_asked default_limits
each_option_sets_its_limit rows limit =
    rw (fold-or_same limits_with value_of limits_with-same rows default_limits option_limits) (default_or_same (number_asked rows) limit)

pub each_table_option_sets_its_limit : EachOptionSetsItsLimit tbl_value_of tbl_limits_asked default_tbl_limits
each_table_option_sets_its_limit rows limit =
    rw (fold-or_same tbl_limits_with tbl_value_of tbl_limits_with-same rows default_tbl_limits tbl_limits) (tbl_default_or_same (number_asked rows) limit)
