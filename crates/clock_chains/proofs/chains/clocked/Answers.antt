use Rattle.std.proofs.Common.{◌≡◌, ◌<◌, ◌≤◌, ◌∙◌, ap, sym, subst, All, [], length, ℕ, List, Bool, Option, None, arith}
use Rattle.std.specs.Prelude.{slice_index_or}
use Rattle.item_order.specs.declared.spans.Span.{Span}
use Rattle.clock_chains.specs.Chains.{AreTold}
use Rattle.clock_chains.specs.Links.{marks}
use Rattle.clock_chains.proofs.ListLaws.{in_all}
use Rattle.clock_chains.proofs.ChainLaws.{all_end, are_told, drivers_below, drivers_count, members_below, reads_count, sliced_here, starts_end}
use Rattle.clock_chains.proofs.chains.clocked.Goals as goal

pub invariant_of-links : goal.invariant_of-links
invariant_of-links c =
    let count = c.args.count in
    let steps = c.args.steps.now in
    let reads = c.in_ok-reads_of.ensures in
    let drivers = c.in_ok-own_drivers.ensures in
    let many : length c.in_ok-reads_of.field-0.items ≡ count = ap length reads ∙ reads_count count steps in
    let bits : length c.in_ok-own_drivers.field-0.items ≡ count = ap length drivers ∙ drivers_count count in
    let few = c.requires.few in record {
      named = λ b i h. let low = drivers_below count b i (ap (λ (l : List (Option ℕ)). slice_index_or l b None) (sym drivers) ∙ h) in omega (arith, low, many);
      within = λ i. subst (λ (n : ℕ). All (λ (s : Span). s.to ≤ n) (slice_index_or c.in_ok-reads_of.field-0.items i [])) (sym bits)
          (subst (λ (l : List (List Span)). All (λ (s : Span). s.to ≤ count) (slice_index_or l i [])) (sym reads) (all_end count steps c.requires.steps i));
      few_items = omega (arith, many, few);
      few_bits = omega (arith, bits, few);
    }

pub slice-requires : goal.slice-requires
slice-requires c =
    let count = c.args.count in
    let bits : length c.in_ok-own_drivers.field-0.items ≡ count = ap length c.in_ok-own_drivers.ensures ∙ drivers_count count in
    subst (λ (n : ℕ). All (λ (s : Span). s.to ≤ n) c.as_slice.result.now) (sym bits)
    (subst (λ (l : List Span). All (λ (s : Span). s.to ≤ count) l) (sym (c.as_slice.ensures ∙ c.in_ok-start.ensures))
    (starts_end count c.args.clocks.now (λ k i. in_all (λ (k : ℕ). k < count) c.args.clocks.now k c.requires.clocks i)))

pub marked-requires : goal.marked-requires
marked-requires c =
    let count = c.args.count in
    let sliced = sliced_here count c.args.steps.now c.args.clocks.now c.in_ok-reads_of.field-0.items c.in_ok-own_drivers.field-0.items c.as_slice.result.now
    c.in_ok-members.members.items c.in_ok-reads_of.ensures c.in_ok-own_drivers.ensures (c.as_slice.ensures ∙ c.in_ok-start.ensures) c.in_ok-members.ensures in
    subst (λ (l : List ℕ). All (λ (k : ℕ). k < count) l) (sym c.as_slice-2.ensures.value) (members_below count c.args.steps.now c.args.clocks.now c.in_ok-members.members.items sliced)

pub returns : goal.returns
returns c =
    let count = c.args.count in
    let sliced = sliced_here count c.args.steps.now c.args.clocks.now c.in_ok-reads_of.field-0.items c.in_ok-own_drivers.field-0.items c.as_slice.result.now
    c.in_ok-members.members.items c.in_ok-reads_of.ensures c.in_ok-own_drivers.ensures (c.as_slice.ensures ∙ c.in_ok-start.ensures) c.in_ok-members.ensures in
    subst (λ (l : List Bool). AreTold c.args.steps.now c.args.clocks.now count l) (sym (c.in_ok-told.ensures ∙ ap (marks count) c.as_slice-2.ensures.value))
    (are_told count c.args.steps.now c.args.clocks.now c.in_ok-members.members.items c.requires.steps c.requires.clocks sliced)
