use Rattle.std.proofs.Common.{◌≡◌, ℕ, ◌<◌, true, false, List, Option, length, map, sym, ◌∙◌, ap, subst, arith}
use Rattle.std.proofs.lemmas.List.{length-map}
use Rattle.design_core.specs.Parts.{item_cell}
use Rattle.design_core.specs.Wellformed.{signal_lengths}
use Rattle.item_order.specs.Spans.{AreWithin}
use Rattle.item_links.specs.Noted.{IsDouble, IsFirstSignal, all_drives, flag}
use Rattle.item_links.specs.Owned.{IsOwned}
use Rattle.item_links.proofs.NotedLaws.{drivers_are, first_double}
use Rattle.item_links.proofs.ReadLaws.{owned}
use Rattle.item_links.proofs.GraphLaws.{is_graph, named}
use Rattle.item_links.proofs.OrderLaws.{none_found}
use Rattle.item_links.proofs.linking.link.Goals as goal

pub returns-in-Some-clause-twice : goal.returns-in-Some-clause-twice
returns-in-Some-clause-twice c = λ s e.
    let signals = c.args.signals.now in
    let lengths = signal_lengths signals in
    let cells = map (item_cell signals) c.args.items.now in
    let noted = c.in_ok-noted.noted in
    let found = c.in-Some.signal in
    let value = c.as_slice-2.ensures.value in
    let q : found ≡ s = cc in
    subst (IsFirstSignal (IsDouble (all_drives cells))) q (first_double lengths (all_drives cells) noted.drivers.items noted.twice.items c.in_ok-noted.ensures.noted found
    (sym (ap (λ ts. flag ts found) value) ∙ c.in-Some.ensures.1) (λ t l. sym (ap (λ ts. flag ts t) value) ∙ c.in-Some.ensures.2 t l))

pub all_reads-requires-clause-own : goal.all_reads-requires-clause-own
all_reads-requires-clause-own c = λ i l.
    let signals = c.args.signals.now in
    let lengths = signal_lengths signals in
    let cells = map (item_cell signals) c.args.items.now in
    let noted = c.in_ok-noted.noted in
    let none : (s : ℕ) → flag noted.twice.items s ≡ false = λ s. sym (ap (λ ts. flag ts s) c.as_slice-2.ensures.value)
    ∙ none_found ((t : ℕ) → flag c.as_slice-2.result.now t ≡ false)
    (λ t. (t < length c.as_slice-2.result.now) × (flag c.as_slice-2.result.now t ≡ true) × ((k : ℕ) → k < t → flag c.as_slice-2.result.now k ≡ false)) c.first_flag.result c.first_flag.ensures c.in_default.not-Some s in
    let exact = drivers_are lengths (all_drives cells) noted.drivers.items noted.twice.items c.in_ok-noted.ensures.noted none in
    let P : List (Option ℕ) → Type 0 = λ ds. IsOwned lengths ds i (all_drives cells i) in
    subst P (sym c.as_slice-4.ensures.value) (owned lengths (all_drives cells) noted.drivers.items noted.twice.items c.in_ok-noted.ensures.noted exact i)

pub invariant_of-result : goal.invariant_of-result
invariant_of-result c =
    let signals = c.args.signals.now in
    let lengths = signal_lengths signals in
    let items = c.args.items.now in
    let cells = map (item_cell signals) items in
    let noted = c.in_ok-noted.noted in
    let reads = c.in_ok-reads.reads.items in
    let many = c.in_ok-reads.ensures.many in
    let bits = c.in_ok-noted.ensures.many in
    let few = c.requires.few_items in
    let low = c.requires.few_bits in
    let same : length cells ≡ length reads = length-map items (item_cell signals) ∙ sym many in
    let P : ℕ → Type 0 = λ n. AreWithin n reads in
    record {
      named = named lengths cells noted.drivers.items noted.twice.items (length reads) c.in_ok-noted.ensures.noted same;
      within = subst P (sym bits) c.in_ok-reads.ensures.below;
      few_items = omega (arith, many, few);
      few_bits = omega (arith, bits, low);
    }

pub returns-clause-graph : goal.returns-clause-graph
returns-clause-graph c =
    let signals = c.args.signals.now in
    let lengths = signal_lengths signals in
    let cells = map (item_cell signals) c.args.items.now in
    let noted = c.in_ok-noted.noted in
    let none : (s : ℕ) → flag noted.twice.items s ≡ false = λ s. sym (ap (λ ts. flag ts s) c.as_slice-2.ensures.value)
    ∙ none_found ((t : ℕ) → flag c.as_slice-2.result.now t ≡ false)
    (λ t. (t < length c.as_slice-2.result.now) × (flag c.as_slice-2.result.now t ≡ true) × ((k : ℕ) → k < t → flag c.as_slice-2.result.now k ≡ false)) c.first_flag.result c.first_flag.ensures c.in_default.not-Some s in
    let exact = drivers_are lengths (all_drives cells) noted.drivers.items noted.twice.items c.in_ok-noted.ensures.noted none in
    is_graph lengths cells c.in_ok-reads.reads.items noted.drivers.items noted.twice.items c.in_ok-reads.ensures.spans c.in_ok-noted.ensures.noted exact
