-- Bytes of a text line that are told: the environments, the pages and what is written behind them.
use Rattle.std.proofs.Common.{◌≡◌, ℕ, Bool, true, false, List, [], ◌∷◌, ◌++◌, Option, None, refl, sym, ap, subst, ◌∙◌, ◌==◌, option_map, if◌then◌else◌, append-nil}
use Rattle.page_model.specs.Events.{History}
use Rattle.page_model.specs.declared.event.Event.TheVariants.{Print, WordEnd, Gap}
use Rattle.page_model.specs.Lines.{Finished}
use Rattle.page_model.specs.Behind.{finished}
use Rattle.page_model.specs.Telling.{QuietlyTold, bytes_told}
use Rattle.page_model.specs.declared.glyph.Glyph.TheVariants.{Printed}
use Rattle.page_model.specs.Happenings.{Places}
use Rattle.run_model.specs.Environments.{Environments, environments}
use Rattle.run_model.specs.Layouts.{laid_out, layout_of}
use Rattle.run_model.specs.Output.{PageHistory, text_laid, text_of, written}
use Rattle.run_model.specs.declared.event.PageEvent.TheVariants.{Text}
use Rattle.run_model.specs.Telling.{byte_told, page_told}

-- what happened in the environment in force became this
abbrev pub with_text : History → Environments → Environments
with_text text es = record es { in_force = record es.in_force { text = text } }

-- a byte is told to the environment in force, and to no other
environments-byte : (is_blank : Bool) (b : ℕ) (h : PageHistory)
    → environments (if is_blank then Text (Gap 1) ∷ Text WordEnd ∷ h else Text (Print (Printed b)) ∷ h)
    ≡ with_text (if is_blank then Gap 1 ∷ WordEnd ∷ text_of h else Print (Printed b) ∷ text_of h) (environments h)
environments-byte true b h = refl
environments-byte false b h = refl

-- so it is in the history of that environment
text_of-byte : (b : ℕ) (h : PageHistory) → text_of (byte_told b h) ≡ bytes_told (b ∷ []) (text_of h)
text_of-byte b h = ap (λ (es : Environments). es.in_force.text) (environments-byte (b == 32) b h)

-- and so are several
pub environments-told : (bytes : List ℕ) (h : PageHistory) → environments (page_told bytes h) ≡ with_text (bytes_told bytes (text_of h)) (environments h)
environments-told [] h = refl
environments-told (b ∷ bytes) h =
    environments-told bytes (byte_told b h)
    ∙ ap (λ (es : Environments). with_text (bytes_told bytes es.in_force.text) es) (environments-byte (b == 32) b h)

-- behind a byte that can be told others can be
pub quiet-byte : (cap : ℕ) (b : ℕ) (bytes : List ℕ) (h : PageHistory) → QuietlyTold cap bytes (bytes_told (b ∷ []) (text_of h))
    → QuietlyTold cap bytes (text_of (byte_told b h))
quiet-byte cap b bytes h quiet = subst (λ (text : History). QuietlyTold cap bytes text) (sym (text_of-byte b h)) quiet

-- a byte that finishes no line leaves the layout as it was
pub layout-byte : (is_blank : Bool) (b : ℕ) (h : PageHistory) → (if is_blank then finished (text_of h) WordEnd else None) ≡ None
    → layout_of (if is_blank then Text (Gap 1) ∷ Text WordEnd ∷ h else Text (Print (Printed b)) ∷ h) ≡ layout_of h
layout-byte true b h quiet = ap (λ (line : Option Finished). laid_out (option_map Places line) (layout_of h)) quiet
layout-byte false b h quiet = refl

-- and so do several
pub layout-told : (cap : ℕ) (bytes : List ℕ) (h : PageHistory) → QuietlyTold cap bytes (text_of h) → layout_of (page_told bytes h) ≡ layout_of h
layout-told cap [] h quiet = refl
layout-told cap (b ∷ bytes) h quiet =
    layout-told cap bytes (byte_told b h) (quiet-byte cap b bytes h quiet.2) ∙ layout-byte (b == 32) b h quiet.0

-- a byte that finishes no line writes nothing
written-byte : (is_blank : Bool) (b : ℕ) (h : PageHistory) → (if is_blank then finished (text_of h) WordEnd else None) ≡ None
    → written (if is_blank then Text (Gap 1) ∷ Text WordEnd ∷ h else Text (Print (Printed b)) ∷ h) ≡ written h
written-byte true b h quiet =
    append-nil (written (Text WordEnd ∷ h))
    ∙ ap (λ (line : Option Finished). written h ++ text_laid (option_map Places line) (layout_of h)) quiet
    ∙ append-nil (written h)
written-byte false b h quiet = append-nil (written h)

-- and so it is of several
pub written-told : (cap : ℕ) (bytes : List ℕ) (h : PageHistory) → QuietlyTold cap bytes (text_of h) → written (page_told bytes h) ≡ written h
written-told cap [] h quiet = refl
written-told cap (b ∷ bytes) h quiet =
    written-told cap bytes (byte_told b h) (quiet-byte cap b bytes h quiet.2) ∙ written-byte (b == 32) b h quiet.0
