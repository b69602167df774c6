-- Cells behind the lines of rules in front of their row: the rule that they show on its first line.
use Rattle.std.proofs.Common.{◌≡◌, ℕ, zero, suc, ◌-◌, ◌<◌, ◌≤◌, ◌==◌, nat_lt, Bool, true, false, List, [], ◌∷◌, map, refl, sym, ap, ◌∙◌, arith, if◌then◌else◌, Option, None}
use Rattle.tbl_layout.specs.Entries.{Above, Block, Content, Repeated, Ruled, Short, Text}
use Rattle.tbl_layout.specs.declared.data_lines.RuleSign.{RuleSign}
use Rattle.tbl_lines.specs.CellsLeft.{Left, goes_on, rest_by}
use Rattle.tbl_lines.specs.LinesLeft.{joined_here, rule_here, rule_of, same_sign}
use Rattle.tbl_lines.specs.PictureLeft.{through_rule, through_rules}
use Rattle.tbl_line_cells.specs.KeptCells.{IsLeft, ShowsRule, behind_rules}
use Rattle.tbl_line_cells.specs.declared.cells.CellLeft.{CellLeft}
use Rattle.tbl_line_cells.proofs.CellsKept.{no-lead, nothing-laid, nothing-lies, nothing_left}

-- a cell behind a line of rules, by whether it goes on and whether its field's next line stands there
abbrev through_by : Bool → Bool → Left → Left
through_by up is_here l = if up then (if is_here then rest_by l.field l else record l { lead = l.lead - 1 }) else l

-- a cell without a rule, above whose field no line stands
record NoRule (l : Left) : Type 0 where
  pub rule : rule_of l.field ≡ None
  pub lead : l.lead ≡ 0

rest-none : (f : Content) (l : Left) → l.field ≡ f → l.lead ≡ 0 → NoRule (rest_by f l)
rest-none (Block measure lines) l is here = record { rule = ap rule_of is; lead = here }
rest-none (Text bytes) l is here = record { rule = refl; lead = here }
rest-none (Ruled sign) l is here = record { rule = refl; lead = here }
rest-none Short l is here = record { rule = refl; lead = here }
rest-none (Repeated b) l is here = record { rule = refl; lead = here }
rest-none Above l is here = record { rule = refl; lead = here }

through-none : (up is_here : Bool) (l : Left) → NoRule l → NoRule (through_by up is_here l)
through-none false is_here l none = none
through-none true false l none = record { rule = none.rule; lead = ap (λ (n : ℕ). n - 1) none.lead }
through-none true true l none = rest-none l.field l refl none.lead

none-here : (l : Left) → NoRule l → rule_here l ≡ None
none-here l none =
    ap (λ (n : ℕ). if n == 0 then rule_of l.field else None) none.lead ∙ none.rule

gone-rule : (rules : ℕ) (l : Left) → NoRule l → rule_here (behind_rules rules l) ≡ None
gone-rule zero l none = none-here l none
gone-rule (suc rules) l none = gone-rule rules (through_rule l) (through-none (goes_on l) (l.lead == 0) l none)

-- a cell that goes on, behind a line of rules
through-here : (l : Left) → goes_on l ≡ true → l.lead ≡ 0 → through_rule l ≡ rest_by l.field l
through-here l up here =
    ap (λ (b : Bool). through_by b (l.lead == 0) l) up ∙ ap (λ (n : ℕ). through_by true (n == 0) l) here

through-nearer : (l : Left) → goes_on l ≡ true → 0 < l.lead → through_rule l ≡ record l { lead = l.lead - 1 }
through-nearer l up more =
    ap (λ (b : Bool). through_by b (l.lead == 0) l) up ∙ ap (λ (b : Bool). through_by true b l) (no-lead l.lead more)

-- behind more lines than stand above its field it shows none
first-gone : (rules lead : ℕ) (l : Left) → goes_on l ≡ true → l.lead ≡ lead → lead < rules → rule_here (behind_rules rules l) ≡ None
first-gone zero lead l up is more = absurd (omega (arith, more))
first-gone (suc rules) zero l up is more =
    ap (λ (m : Left). rule_here (behind_rules rules m)) (through-here l up is) ∙ gone-rule rules (rest_by l.field l) (rest-none l.field l refl is)
first-gone (suc rules) (suc lead) l up is more =
    ap (λ (m : Left). rule_here (behind_rules rules m)) (through-nearer l up (omega (arith, is)))
    ∙ first-gone rules lead (record l { lead = l.lead - 1 }) up (omega (arith, is)) (omega (arith, more))

-- behind no more than that they stand above it no more
abbrev lead_is : Left → ℕ → Left
lead_is l lead = record l { lead = lead }

first-nearer : (rules : ℕ) (l : Left) → goes_on l ≡ true → rules ≤ l.lead → behind_rules rules l ≡ lead_is l (l.lead - rules)
first-nearer zero l up few = ap (lead_is l) (omega arith)
first-nearer (suc rules) l up few =
    ap (behind_rules rules) (through-nearer l up (omega (arith, few)))
    ∙ first-nearer rules (record l { lead = l.lead - 1 }) up (omega (arith, few))
    ∙ ap (lead_is l) (omega (arith, few))

-- one that begins with its row stays as it is
first-stays : (rules : ℕ) (l : Left) → goes_on l ≡ false → behind_rules rules l ≡ l
first-stays zero l down = refl
first-stays (suc rules) l down =
    ap (λ (b : Bool). behind_rules rules (through_by b (l.lead == 0) l)) down ∙ first-stays rules l down

up-kept : (bytes : List ℕ) (c : CellLeft) (l : Left) → IsLeft bytes c l → nat_lt 0 c.rows ≡ goes_on l
up-kept bytes c l is = ap (nat_lt 0) is.rows

-- so it is kept
module _ (bytes : List ℕ) (c : CellLeft) (rules : ℕ) (l : Left) (is : IsLeft bytes c l) where
  pub stays-shown : nat_lt 0 c.rows ≡ false → ShowsRule bytes c (behind_rules rules l)
  stays-shown down = record {
    shown = l;
    is = is;
    rule = ap rule_here (sym (first-stays rules l (sym (up-kept bytes c l is) ∙ down)));
  }

  pub nearer-shown : nat_lt 0 c.rows ≡ true → rules ≤ c.lead
      → ShowsRule bytes (record c { lead = c.lead - rules }) (behind_rules rules l)
  nearer-shown up few = record {
    shown = lead_is l (l.lead - rules);
    is = record {
      key = is.key;
      field = is.field;
      lead = ap (λ (n : ℕ). n - rules) is.lead;
      rows = is.rows;
      used = is.used;
      stop = is.stop;
      cut = is.cut;
      lies = is.lies;
      laid = is.laid;
      within = is.within;
      place = is.place;
    };
    rule = ap rule_here (sym (first-nearer rules l (sym (up-kept bytes c l is) ∙ up) (omega (arith, few, is.lead))));
  }

  pub gone-shown : nat_lt 0 c.rows ≡ true → c.lead < rules → ShowsRule bytes (nothing_left c) (behind_rules rules l)
  gone-shown up more = record {
    shown = record l { field = Text []; lead = 0; gone = 0 };
    is = record {
      key = is.key;
      field = refl;
      lead = refl;
      rows = is.rows;
      used = is.used;
      stop = is.stop;
      cut = is.cut;
      lies = nothing-lies bytes;
      laid = nothing-laid bytes c.key.key;
      within = tt;
      place = refl;
    };
    rule = sym (first-gone rules l.lead l (sym (up-kept bytes c l is) ∙ up) refl (omega (arith, more, is.lead)));
  }

-- two cells that show what others show are joined as these are
pub joined-shown : (bytes : List ℕ) (c d : CellLeft) (l m : Left) (left : ShowsRule bytes c l) (right : ShowsRule bytes d m)
    → joined_here left.shown right.shown ≡ joined_here l m
joined-shown bytes c d l m left right =
    ap (λ (r : Option RuleSign). same_sign r (rule_here right.shown)) left.rule ∙ ap (same_sign (rule_here l)) right.rule

-- all cells of a row behind lines of rules are each behind them
none-behind : (cells : List Left) → cells ≡ map (behind_rules 0) cells
none-behind [] = refl
none-behind (l ∷ cells) = ap (λ (rest : List Left). l ∷ rest) (none-behind cells)

step-behind : (rules : ℕ) (cells : List Left) → map (behind_rules rules) (map through_rule cells) ≡ map (behind_rules (suc rules)) cells
step-behind rules [] = refl
step-behind rules (l ∷ cells) = ap (λ (rest : List Left). behind_rules rules (through_rule l) ∷ rest) (step-behind rules cells)

pub each-behind : (rules : ℕ) (cells : List Left) → through_rules rules cells ≡ map (behind_rules rules) cells
each-behind zero cells = none-behind cells
each-behind (suc rules) cells = each-behind rules (map through_rule cells) ∙ step-behind rules cells
