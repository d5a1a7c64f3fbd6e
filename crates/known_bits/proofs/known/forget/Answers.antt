use Rattle.std.proofs.Common.{◌≡◌, ◌+◌, ◌++◌, ◌∷◌, [], ap, length, false, arith, ◌∙◌}
use Rattle.std.proofs.lemmas.List.{length_push, length-set}
use Rattle.known_bits.proofs.KnownLaws.{gone_more, kept_pop, last_below, prefix_is}
use Rattle.known_bits.proofs.known.forget.Goals as goal

pub index_mut-requires : goal.index_mut-requires
index_mut-requires c =
    let l = last_below c.loop-all.all.known.items c.loop-all.all.trail.items c.pop.new.self.items c.in-Some.bit c.in-Some.ensures.items c.loop-all.invariant.kept in
    omega (arith, l, c.loop-all.all.known.ok.0)

pub loop-all-preserved-in-Continue-1 : goal.loop-all-preserved-in-Continue-1
loop-all-preserved-in-Continue-1 c =
    let was = c.loop-all.invariant in
    let initial = c.args.all.now.trail.items in
    let longer = c.loop-all.all.trail.items in
    let shorter = c.pop.new.self.items in
    let bit = c.in-Some.bit in
    let is : longer ≡ shorter ++ bit ∷ [] = c.in-Some.ensures.items in
    let many : length longer ≡ length shorter + 1 = ap length is ∙ length_push shorter bit in
    let within = was.within in
    let top = c.loop-all-test.true in
    record {
      kept = kept_pop c.loop-all.all.known.items longer shorter bit is was.kept;
      many = length-set c.loop-all.all.known.items bit false ∙ was.many;
      within = omega (arith, within, many);
      above = omega (arith, top, many, c.len.ensures, c.loop-all.all.trail.ok.0);
      prefix = prefix_is initial shorter longer bit is was.prefix within;
      gone = gone_more initial shorter longer bit is was.prefix within c.loop-all.gone.items c.push.new.self.items c.in_ok-push.ensures.items was.gone;
    }
