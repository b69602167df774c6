use Rattle.std.proofs.Common.{◌≡◌, ◌∙◌, ℕ, Bool, refl, ap, ◌&&◌, ◌==◌, nat_lt, if◌then◌else◌}
use Rattle.roff_pages.specs.Pages.Kept.{Kept}
use Rattle.roff_pages.proofs.Blanking.{did_blank_as, need_puts}
use Rattle.roff_pages.proofs.pages.Pages.need.Goals as goal

pub returns : goal.returns
returns g c =
    let k : Kept = c.args.self.now in
    let next : c.self.inside.next ≡ k.next = ap (λ (k : Kept). k.next) c.self.view_is in
    let mode : c.self.inside.no_space ≡ k.no_space = ap (λ (k : Kept). k.no_space) c.self.view_is in
    let count = c.needed-count.result in
    let way = c.way.ensures in
    let is = c.needed-count.ensures.count ∙ ap (λ (n : ℕ). if nat_lt n c.args.lines then n else 0) way.way in
    let behind : c.mode_behind.result ≡ (k.no_space && count == 0) = c.mode_behind.ensures ∙ ap (λ (on : Bool). on && count == 0) mode in
    record {
      did = λ L s. did_blank_as _ L count count count k.next c.self.inside.next (k.no_space && count == 0) c.mode_behind.result k c.put_blank_lines.new.self (g.O.ByteSink.sunk c.args.out.now) (g.O.ByteSink.sunk c.put_blank_lines.new.out) c.put_blank_lines.result
          refl next behind (need_puts c.args.lines L k count s way.short c.requires is) (c.put_blank_lines.ensures.did L s);
      limits = c.put_blank_lines.ensures.limits;
    }
