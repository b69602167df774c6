-- What is put in an open diversion: no page begins or ends, no trap is met, and its text gets the box.
use Rattle.std.proofs.Common.{◌≡◌, ℕ, ◌-◌, Bool, true, false, List, [], ◌∷◌, length, Option, Some, None, refl, ap, ◌∙◌, arith, ◌||◌, not, ◌==◌, if◌then◌else◌, eq-eqb}
use Rattle.page_model.specs.DeviceText.{device_text}
use Rattle.page_model.specs.DivertedText.{diverted_line}
use Rattle.page_model.specs.DueTexts.{Gets, text_due}
use Rattle.page_model.specs.declared.layout_event.LayoutEvent.TheVariants.{Space}
use Rattle.page_model.specs.Happenings.{Happening, Does, Places}
use Rattle.page_model.specs.Layout.{Box, Lined, Empty, Layout}
use Rattle.page_model.specs.Columns.{printed}
use Rattle.page_model.specs.Queries.{takes_text}
use Rattle.page_model.specs.Springs.{first_met, is_on_top, springs_on_page}
use Rattle.page_model.specs.Turning.{with_event}
use Rattle.page_model.specs.declared.settings.Settings.{Settings}
use Rattle.roff_num.specs.declared.short_name.ShortName.{ShortName}
use Rattle.law_reading_again.specs.Again.{with_diverted}
use Rattle.law_reading_again.proofs.Glyphs.{plain_line}

-- where a text is read: in a diversion of this name, over this layout, with these settings but for filling, where this was written
pub record Around : Type 0 where
  pub name : ShortName
  pub appends : Bool
  pub layout : Layout
  pub settings : Settings
  pub output : List ℕ
  pub goes_on : layout.is_over ≡ false

-- the layout with these boxes in the diversion
abbrev pub holding : Around → List Box → Layout
holding around boxes = with_diverted around.name around.appends boxes around.layout

-- how many others it stands in
abbrev pub outer : Around → ℕ
outer around = length around.layout.diversions

-- text is taken there
pub takes_text-diverted : (around : Around) (boxes : List Box) → takes_text (holding around boxes) ≡ true
takes_text-diverted around boxes = by_begun (not (around.layout.begun == 0))
  where
    by_begun : (c : Bool) → (c || true) ≡ true
    by_begun true = refl
    by_begun false = refl

-- a happening puts this box there, and nothing else
pub record PutsBox (around : Around) (boxes : List Box) (x : Happening) (b : Box) : Type 0 where
  pub laid : with_event x (holding around boxes) ≡ holding around (b ∷ boxes)
  pub due : text_due x (holding around boxes) ≡ Some (Gets (outer around) (diverted_line b))
  pub sprung : springs_on_page x (holding around boxes) ≡ None
  pub unwritten : device_text x (holding around boxes) ≡ []

-- a page that goes on is no other page
no_page : (around : Around) (top : Option ShortName)
    → (if around.layout.is_over then None else if not (around.layout.begun == around.layout.begun) then top else None) ≡ None
no_page around top =
    ap (λ (c : Bool). if c then None else if not (around.layout.begun == around.layout.begun) then top else None) around.goes_on
    ∙ ap (λ (c : Bool). if not c then top else None) (eq-eqb around.layout.begun around.layout.begun refl)

-- the innermost diversion's text is the last
last_text : (around : Around) (boxes : List Box) (bytes : List ℕ)
    → Some (Gets (length (holding around boxes).diversions - 1) bytes) ≡ Some (Gets (outer around) bytes)
last_text around boxes bytes =
    let is : length (holding around boxes).diversions - 1 ≡ outer around = omega arith in ap (λ (n : ℕ). Some (Gets n bytes)) is

pub puts-line : (around : Around) (boxes : List Box) (text : List ℕ)
    → PutsBox around boxes (Places (plain_line text)) (Lined (printed (plain_line text)))
puts-line around boxes text = record {
  laid = refl;
  due = last_text around boxes (diverted_line (Lined (printed (plain_line text))));
  sprung = no_page around (first_met is_on_top around.layout.length around.layout.traps);
  unwritten = refl;
}

pub puts-space : (around : Around) (boxes : List Box) → PutsBox around boxes (Does (Space 1)) Empty
puts-space around boxes = record {
  laid = refl;
  due = last_text around boxes (diverted_line Empty);
  sprung = no_page around (first_met is_on_top around.layout.length around.layout.traps);
  unwritten = refl;
}
