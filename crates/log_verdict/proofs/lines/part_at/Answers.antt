use Rattle.std.proofs.Common.{rules, ◌≡◌, ◌∷◌, ◌++◌, [], length, false, arith, ap, refl, suc, sym, ◌∙◌, subst, bytes_eq}
use Rattle.cnf_core.specs.Text.{text_lines}
use Rattle.log_verdict.specs.Lines.{upto}
use Rattle.log_verdict.proofs.LineLaws.{IsEnded, Clean, clean_first, ended_more, upto_more, past_more, count_more}
use Rattle.log_verdict.proofs.lines.part_at.Goals as goal

pub loop-marker-preserved : goal.loop-marker-preserved
loop-marker-preserved c =
    let line = c.cut.result.0.now in
    let front = c.loop-marker.front.items in
    let other : bytes_eq c.cut.result.0.now c.args.marker.now ≡ false = search rules in
    let more : c.push_line.new.front.items ≡ c.loop-marker.front.items ++ (c.cut.result.0.now ++ 10 ∷ []) = search rules in
    let clean : Clean c.cut.result.0.now = clean_first c.loop-marker.rest.now c.cut.result.0.now (text_lines c.cut.result.1.now) c.cut.ensures.parts in
    let inv = c.loop-marker.invariant in
    record {
      front =
          ap (λ f. text_lines f ++ upto c.args.marker.now (text_lines c.cut.result.1.now)) more
          ∙ upto_more c.args.marker.now front c.loop-marker.rest.now line c.cut.result.1.now _ inv.ended c.cut.ensures.parts other inv.front;
      behind = past_more c.args.marker.now c.loop-marker.rest.now line c.cut.result.1.now _ c.cut.ensures.parts other inv.behind;
      ended = subst IsEnded (sym more) (ended_more front line inv.ended clean);
      counted = count_more front line c.loop-marker.lines _ inv.ended clean inv.counted refl ∙ ap (λ f. suc (length (text_lines f))) (sym more);
      few = let shorter = c.cut.ensures.shorter in let few = inv.few in omega (arith, shorter, few);
    }
