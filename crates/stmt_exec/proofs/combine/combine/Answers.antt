use Rattle.std.proofs.Common.{arith, get_or, map, refl, rules, subst}
use Rattle.std.proofs.lemmas.Int.{to_z-of_z}
use Rattle.std.proofs.lemmas.Result.{IfOk-weaker}
use mir.Val.{SFits}
use mir.Syntax.{w64}
use Rattle.tree_parts.specs.Parts.{IsNoSignal}
use Rattle.tree_parts.proofs.OperandLaws as o
use Rattle.stmt_exec.proofs.CombineLaws as l
use Rattle.stmt_exec.proofs.combine.combine.Goals as goal

pub offset_bounds-signals-s : goal.offset_bounds-signals-s
offset_bounds-signals-s g c =
    let h = l.signal_there g.D.Domain.meaning c.args.domain.now c.args.signals.now c.args.locals.now c.args.e.now c.requires.formed c.in-Signal.s c.in-Signal.is in omega (arith, h)

pub bounds-signals-s : goal.bounds-signals-s
bounds-signals-s g c = l.signal_there g.D.Domain.meaning c.args.domain.now c.args.signals.now c.args.locals.now c.args.e.now c.requires.formed c.in-Signal.s c.in-Signal.is

pub copy-requires : goal.copy-requires
copy-requires g c =
    l.signal_value g.D.Domain.meaning c.args.domain.now c.args.signals.now c.args.locals.now c.args.e.now c.requires.formed c.in-Signal.s c.index-signals-s.result c.in-Signal.is c.index-signals-s.is
    c.requires.values

pub offset_bounds-locals-k : goal.offset_bounds-locals-k
offset_bounds-locals-k g c =
    let h = l.local_there g.D.Domain.meaning c.args.domain.now c.args.signals.now c.args.locals.now c.args.e.now c.requires.formed c.in-Local.k c.in-Local.is in omega (arith, h)

pub bounds-locals-k : goal.bounds-locals-k
bounds-locals-k g c = l.local_there g.D.Domain.meaning c.args.domain.now c.args.signals.now c.args.locals.now c.args.e.now c.requires.formed c.in-Local.k c.in-Local.is

pub copy-requires-in-Local : goal.copy-requires-in-Local
copy-requires-in-Local g c =
    l.local_value g.D.Domain.meaning c.args.domain.now c.args.signals.now c.args.locals.now c.args.e.now c.requires.formed c.in-Local.k c.index-locals-k.result c.in-Local.is c.index-locals-k.is
    c.requires.values

pub offset_bounds-signals-s-in-Some : goal.offset_bounds-signals-s-in-Some
offset_bounds-signals-s-in-Some g c =
    let h = l.signal_there g.D.Domain.meaning c.args.domain.now c.args.signals.now c.args.locals.now c.get.result.now (l.base_formed g.D.Domain.meaning c.args.domain.now c.args.signals.now
    c.args.locals.now c.args.e.now c.requires.formed c.in-Select.base c.get.result.now c.in-Select.low c.in-Select.is c.get.ensures) c.in-Some.s c.in-Some.ensures in omega (arith, h)

pub bounds-signals-s-in-Some : goal.bounds-signals-s-in-Some
bounds-signals-s-in-Some g c =
    l.signal_there g.D.Domain.meaning c.args.domain.now c.args.signals.now c.args.locals.now c.get.result.now (l.base_formed g.D.Domain.meaning c.args.domain.now c.args.signals.now c.args.locals.now
    c.args.e.now c.requires.formed c.in-Select.base c.get.result.now c.in-Select.low c.in-Select.is c.get.ensures) c.in-Some.s c.in-Some.ensures

pub select-requires-clause-value : goal.select-requires-clause-value
select-requires-clause-value g c =
    l.signal_value g.D.Domain.meaning c.args.domain.now c.args.signals.now c.args.locals.now c.get.result.now (l.base_formed g.D.Domain.meaning c.args.domain.now c.args.signals.now c.args.locals.now
    c.args.e.now c.requires.formed c.in-Select.base c.get.result.now c.in-Select.low c.in-Select.is c.get.ensures) c.in-Some.s c.index-signals-s-in-Some.result c.in-Some.ensures
    c.index-signals-s-in-Some.is c.requires.values

pub select-requires-clause-some : goal.select-requires-clause-some
select-requires-clause-some g c = l.some_bits (map g.D.Domain.meaning.width c.args.signals.now) (map g.D.Domain.meaning.width c.args.locals.now) c.args.e.now c.requires.formed

pub select-requires-clause-most : goal.select-requires-clause-most
select-requires-clause-most g c = l.most_bits (map g.D.Domain.meaning.width c.args.signals.now) (map g.D.Domain.meaning.width c.args.locals.now) c.args.e.now c.requires.formed

pub bounds-words-0 : goal.bounds-words-0
bounds-words-0 g c =
    l.word_there g.D.Domain.meaning c.args.domain.now c.args.signals.now c.args.locals.now c.args.e.now c.args.words.now c.requires.worth (o.operands_select c.args.e.now c.in-Select.base
    c.in-Select.low c.in-Select.is (subst IsNoSignal c.get.ensures c.in-None.ensures)) 0 (omega arith)

pub select-requires-in-None-clause-value : goal.select-requires-in-None-clause-value
select-requires-in-None-clause-value g c =
    (l.part_at g.D.Domain.meaning c.args.domain.now c.args.signals.now c.args.locals.now c.args.e.now c.args.words.now c.requires.worth (o.operands_select c.args.e.now c.in-Select.base c.in-Select.low
    c.in-Select.is (subst IsNoSignal c.get.ensures c.in-None.ensures)) 0 (omega arith) c.in-Select.base refl (get_or c.args.words.now 0 c.index-words-0.result) c.index-words-0.result
    refl).is_word.is_one

pub select-requires-in-None-clause-some : goal.select-requires-in-None-clause-some
select-requires-in-None-clause-some g c = l.some_bits (map g.D.Domain.meaning.width c.args.signals.now) (map g.D.Domain.meaning.width c.args.locals.now) c.args.e.now c.requires.formed

pub select-requires-in-None-clause-most : goal.select-requires-in-None-clause-most
select-requires-in-None-clause-most g c = l.most_bits (map g.D.Domain.meaning.width c.args.signals.now) (map g.D.Domain.meaning.width c.args.locals.now) c.args.e.now c.requires.formed

pub bounds-words-0-in-SelectAt : goal.bounds-words-0-in-SelectAt
bounds-words-0-in-SelectAt g c =
    l.word_there g.D.Domain.meaning c.args.domain.now c.args.signals.now c.args.locals.now c.args.e.now c.args.words.now c.requires.worth (o.operands_select_at c.args.e.now c.in-SelectAt.base
    c.in-SelectAt.index c.in-SelectAt.offset c.in-SelectAt.down c.in-SelectAt.is) 0 (omega arith)

pub scale_in_slice-select_at-in-SelectAt : goal.scale_in_slice-select_at-in-SelectAt
scale_in_slice-select_at-in-SelectAt g c =
    let h = l.word_there g.D.Domain.meaning c.args.domain.now c.args.signals.now c.args.locals.now c.args.e.now c.args.words.now c.requires.worth (o.operands_select_at c.args.e.now c.in-SelectAt.base
    c.in-SelectAt.index c.in-SelectAt.offset c.in-SelectAt.down c.in-SelectAt.is) 0 (omega arith) in omega (arith, h)

pub bounds-words-1 : goal.bounds-words-1
bounds-words-1 g c =
    l.word_there g.D.Domain.meaning c.args.domain.now c.args.signals.now c.args.locals.now c.args.e.now c.args.words.now c.requires.worth (o.operands_select_at c.args.e.now c.in-SelectAt.base
    c.in-SelectAt.index c.in-SelectAt.offset c.in-SelectAt.down c.in-SelectAt.is) 1 (omega arith)

pub select_at-requires-clause-base_is : goal.select_at-requires-clause-base_is
select_at-requires-clause-base_is g c =
    (l.part_at g.D.Domain.meaning c.args.domain.now c.args.signals.now c.args.locals.now c.args.e.now c.args.words.now c.requires.worth (o.operands_select_at c.args.e.now c.in-SelectAt.base
    c.in-SelectAt.index c.in-SelectAt.offset c.in-SelectAt.down c.in-SelectAt.is) 0 (omega arith) c.in-SelectAt.base refl (get_or c.args.words.now 0 c.index-words-0-in-SelectAt.result)
    c.index-words-0-in-SelectAt.result refl).is_word.is_one

pub select_at-requires-clause-fits : goal.select_at-requires-clause-fits
select_at-requires-clause-fits g c =
    let p = l.part_at g.D.Domain.meaning c.args.domain.now c.args.signals.now c.args.locals.now c.args.e.now c.args.words.now c.requires.worth (o.operands_select_at c.args.e.now c.in-SelectAt.base
    c.in-SelectAt.index c.in-SelectAt.offset c.in-SelectAt.down c.in-SelectAt.is) 0 (omega arith) c.in-SelectAt.base refl (get_or c.args.words.now 0 c.index-words-0-in-SelectAt.result)
    c.index-words-0-in-SelectAt.result refl in
    l.base_most g.D.Domain.meaning c.args.domain.now c.args.signals.now c.args.locals.now c.args.e.now c.requires.formed c.in-SelectAt.base c.in-SelectAt.index c.in-SelectAt.offset c.in-SelectAt.down
    (get_or c.args.words.now 0 c.index-words-0-in-SelectAt.result) c.in-SelectAt.is p

pub select_at-requires-clause-index_is : goal.select_at-requires-clause-index_is
select_at-requires-clause-index_is g c =
    (l.part_at g.D.Domain.meaning c.args.domain.now c.args.signals.now c.args.locals.now c.args.e.now c.args.words.now c.requires.worth (o.operands_select_at c.args.e.now c.in-SelectAt.base
    c.in-SelectAt.index c.in-SelectAt.offset c.in-SelectAt.down c.in-SelectAt.is) 1 (omega arith) c.in-SelectAt.index refl c.index-words-1.result c.index-words-1.result c.index-words-1.is).is_word

pub select_at-requires-clause-narrow : goal.select_at-requires-clause-narrow
select_at-requires-clause-narrow g c =
    let p = l.part_at g.D.Domain.meaning c.args.domain.now c.args.signals.now c.args.locals.now c.args.e.now c.args.words.now c.requires.worth (o.operands_select_at c.args.e.now c.in-SelectAt.base
    c.in-SelectAt.index c.in-SelectAt.offset c.in-SelectAt.down c.in-SelectAt.is) 1 (omega arith) c.in-SelectAt.index refl c.index-words-1.result c.index-words-1.result c.index-words-1.is in
    l.index_narrow g.D.Domain.meaning c.args.domain.now c.args.signals.now c.args.locals.now c.args.e.now c.requires.formed c.in-SelectAt.base c.in-SelectAt.index c.in-SelectAt.offset
    c.in-SelectAt.down c.index-words-1.result c.in-SelectAt.is p

pub select_at-requires-clause-some : goal.select_at-requires-clause-some
select_at-requires-clause-some g c = l.some_bits (map g.D.Domain.meaning.width c.args.signals.now) (map g.D.Domain.meaning.width c.args.locals.now) c.args.e.now c.requires.formed

pub select_at-requires-clause-most : goal.select_at-requires-clause-most
select_at-requires-clause-most g c = l.most_bits (map g.D.Domain.meaning.width c.args.signals.now) (map g.D.Domain.meaning.width c.args.locals.now) c.args.e.now c.requires.formed

pub bounds-words-0-in-Unary : goal.bounds-words-0-in-Unary
bounds-words-0-in-Unary g c =
    l.word_there g.D.Domain.meaning c.args.domain.now c.args.signals.now c.args.locals.now c.args.e.now c.args.words.now c.requires.worth (o.operands_unary c.args.e.now c.in-Unary.op c.in-Unary.a
    c.in-Unary.is) 0 (omega arith)

pub unary-requires-clause-value : goal.unary-requires-clause-value
unary-requires-clause-value g c =
    (l.part_at g.D.Domain.meaning c.args.domain.now c.args.signals.now c.args.locals.now c.args.e.now c.args.words.now c.requires.worth (o.operands_unary c.args.e.now c.in-Unary.op c.in-Unary.a
    c.in-Unary.is) 0 (omega arith) c.in-Unary.a refl (get_or c.args.words.now 0 c.index-words-0-in-Unary.result) c.index-words-0-in-Unary.result refl).is_word.is_one

pub unary-requires-clause-fits : goal.unary-requires-clause-fits
unary-requires-clause-fits g c =
    let p = l.part_at g.D.Domain.meaning c.args.domain.now c.args.signals.now c.args.locals.now c.args.e.now c.args.words.now c.requires.worth (o.operands_unary c.args.e.now c.in-Unary.op c.in-Unary.a
    c.in-Unary.is) 0 (omega arith) c.in-Unary.a refl (get_or c.args.words.now 0 c.index-words-0-in-Unary.result) c.index-words-0-in-Unary.result refl in
    l.fits_unary g.D.Domain.meaning c.args.domain.now c.args.signals.now c.args.locals.now c.args.e.now c.requires.formed c.in-Unary.op c.in-Unary.a (get_or c.args.words.now 0
    c.index-words-0-in-Unary.result) c.in-Unary.is p

pub bounds-words-0-in-Binary : goal.bounds-words-0-in-Binary
bounds-words-0-in-Binary g c =
    l.word_there g.D.Domain.meaning c.args.domain.now c.args.signals.now c.args.locals.now c.args.e.now c.args.words.now c.requires.worth (o.operands_binary c.args.e.now c.in-Binary.op c.in-Binary.a
    c.in-Binary.b c.in-Binary.is) 0 (omega arith)

pub scale_in_slice-binary-in-Binary : goal.scale_in_slice-binary-in-Binary
scale_in_slice-binary-in-Binary g c =
    let h = l.word_there g.D.Domain.meaning c.args.domain.now c.args.signals.now c.args.locals.now c.args.e.now c.args.words.now c.requires.worth (o.operands_binary c.args.e.now c.in-Binary.op
    c.in-Binary.a c.in-Binary.b c.in-Binary.is) 0 (omega arith) in omega (arith, h)

pub bounds-words-1-in-Binary : goal.bounds-words-1-in-Binary
bounds-words-1-in-Binary g c =
    l.word_there g.D.Domain.meaning c.args.domain.now c.args.signals.now c.args.locals.now c.args.e.now c.args.words.now c.requires.worth (o.operands_binary c.args.e.now c.in-Binary.op c.in-Binary.a
    c.in-Binary.b c.in-Binary.is) 1 (omega arith)

pub binary-requires-clause-values : goal.binary-requires-clause-values
binary-requires-clause-values g c =
    let p = l.part_at g.D.Domain.meaning c.args.domain.now c.args.signals.now c.args.locals.now c.args.e.now c.args.words.now c.requires.worth (o.operands_binary c.args.e.now c.in-Binary.op
    c.in-Binary.a c.in-Binary.b c.in-Binary.is) 0 (omega arith) c.in-Binary.a refl (get_or c.args.words.now 0 c.index-words-0-in-Binary.result) c.index-words-0-in-Binary.result refl in
    let q = l.part_at g.D.Domain.meaning c.args.domain.now c.args.signals.now c.args.locals.now c.args.e.now c.args.words.now c.requires.worth (o.operands_binary c.args.e.now c.in-Binary.op
    c.in-Binary.a c.in-Binary.b c.in-Binary.is) 1 (omega arith) c.in-Binary.b refl (get_or c.args.words.now 1 c.index-words-1-in-Binary.result) c.index-words-1-in-Binary.result refl in
    (p.is_word.is_one, q.is_word.is_one)

pub binary-requires-clause-fits : goal.binary-requires-clause-fits
binary-requires-clause-fits g c =
    let p = l.part_at g.D.Domain.meaning c.args.domain.now c.args.signals.now c.args.locals.now c.args.e.now c.args.words.now c.requires.worth (o.operands_binary c.args.e.now c.in-Binary.op
    c.in-Binary.a c.in-Binary.b c.in-Binary.is) 0 (omega arith) c.in-Binary.a refl (get_or c.args.words.now 0 c.index-words-0-in-Binary.result) c.index-words-0-in-Binary.result refl in
    let q = l.part_at g.D.Domain.meaning c.args.domain.now c.args.signals.now c.args.locals.now c.args.e.now c.args.words.now c.requires.worth (o.operands_binary c.args.e.now c.in-Binary.op
    c.in-Binary.a c.in-Binary.b c.in-Binary.is) 1 (omega arith) c.in-Binary.b refl (get_or c.args.words.now 1 c.index-words-1-in-Binary.result) c.index-words-1-in-Binary.result refl in
    l.fits_binary g.D.Domain.meaning c.args.domain.now c.args.signals.now c.args.locals.now c.args.e.now c.requires.formed c.in-Binary.op c.in-Binary.a c.in-Binary.b (get_or c.args.words.now 0
    c.index-words-0-in-Binary.result) (get_or c.args.words.now 1 c.index-words-1-in-Binary.result) c.in-Binary.is p q

pub bounds-words-0-in-Mux : goal.bounds-words-0-in-Mux
bounds-words-0-in-Mux g c =
    l.word_there g.D.Domain.meaning c.args.domain.now c.args.signals.now c.args.locals.now c.args.e.now c.args.words.now c.requires.worth (o.operands_mux c.args.e.now c.in-Mux.c c.in-Mux.a c.in-Mux.b
    c.in-Mux.is) 0 (omega arith)

pub scale_in_slice-mux-in-Mux : goal.scale_in_slice-mux-in-Mux
scale_in_slice-mux-in-Mux g c =
    let h = l.word_there g.D.Domain.meaning c.args.domain.now c.args.signals.now c.args.locals.now c.args.e.now c.args.words.now c.requires.worth (o.operands_mux c.args.e.now c.in-Mux.c c.in-Mux.a
    c.in-Mux.b c.in-Mux.is) 0 (omega arith) in omega (arith, h)

pub bounds-words-1-in-Mux : goal.bounds-words-1-in-Mux
bounds-words-1-in-Mux g c =
    l.word_there g.D.Domain.meaning c.args.domain.now c.args.signals.now c.args.locals.now c.args.e.now c.args.words.now c.requires.worth (o.operands_mux c.args.e.now c.in-Mux.c c.in-Mux.a c.in-Mux.b
    c.in-Mux.is) 1 (omega arith)

pub scale_in_slice-mux-in-Mux-2 : goal.scale_in_slice-mux-in-Mux-2
scale_in_slice-mux-in-Mux-2 g c =
    let h = l.word_there g.D.Domain.meaning c.args.domain.now c.args.signals.now c.args.locals.now c.args.e.now c.args.words.now c.requires.worth (o.operands_mux c.args.e.now c.in-Mux.c c.in-Mux.a
    c.in-Mux.b c.in-Mux.is) 1 (omega arith) in omega (arith, h)

pub bounds-words-2 : goal.bounds-words-2
bounds-words-2 g c =
    l.word_there g.D.Domain.meaning c.args.domain.now c.args.signals.now c.args.locals.now c.args.e.now c.args.words.now c.requires.worth (o.operands_mux c.args.e.now c.in-Mux.c c.in-Mux.a c.in-Mux.b
    c.in-Mux.is) 2 (omega arith)

pub mux-requires-clause-values : goal.mux-requires-clause-values
mux-requires-clause-values g c =
    let p = l.part_at g.D.Domain.meaning c.args.domain.now c.args.signals.now c.args.locals.now c.args.e.now c.args.words.now c.requires.worth (o.operands_mux c.args.e.now c.in-Mux.c c.in-Mux.a
    c.in-Mux.b c.in-Mux.is) 0 (omega arith) c.in-Mux.c refl (get_or c.args.words.now 0 c.index-words-0-in-Mux.result) c.index-words-0-in-Mux.result refl in
    let q = l.part_at g.D.Domain.meaning c.args.domain.now c.args.signals.now c.args.locals.now c.args.e.now c.args.words.now c.requires.worth (o.operands_mux c.args.e.now c.in-Mux.c c.in-Mux.a
    c.in-Mux.b c.in-Mux.is) 1 (omega arith) c.in-Mux.a refl (get_or c.args.words.now 1 c.index-words-1-in-Mux.result) c.index-words-1-in-Mux.result refl in
    let s = l.part_at g.D.Domain.meaning c.args.domain.now c.args.signals.now c.args.locals.now c.args.e.now c.args.words.now c.requires.worth (o.operands_mux c.args.e.now c.in-Mux.c c.in-Mux.a
    c.in-Mux.b c.in-Mux.is) 2 (omega arith) c.in-Mux.b refl (get_or c.args.words.now 2 c.index-words-2.result) c.index-words-2.result refl in
    (p.is_word.is_one, q.is_word.is_one, s.is_word.is_one)

pub mux-requires-clause-same : goal.mux-requires-clause-same
mux-requires-clause-same g c =
    let p = l.part_at g.D.Domain.meaning c.args.domain.now c.args.signals.now c.args.locals.now c.args.e.now c.args.words.now c.requires.worth (o.operands_mux c.args.e.now c.in-Mux.c c.in-Mux.a
    c.in-Mux.b c.in-Mux.is) 1 (omega arith) c.in-Mux.a refl (get_or c.args.words.now 1 c.index-words-1-in-Mux.result) c.index-words-1-in-Mux.result refl in
    let q = l.part_at g.D.Domain.meaning c.args.domain.now c.args.signals.now c.args.locals.now c.args.e.now c.args.words.now c.requires.worth (o.operands_mux c.args.e.now c.in-Mux.c c.in-Mux.a
    c.in-Mux.b c.in-Mux.is) 2 (omega arith) c.in-Mux.b refl (get_or c.args.words.now 2 c.index-words-2.result) c.index-words-2.result refl in
    l.same_branches g.D.Domain.meaning c.args.domain.now c.args.signals.now c.args.locals.now c.args.e.now c.requires.formed c.in-Mux.c c.in-Mux.a c.in-Mux.b (get_or c.args.words.now 1
    c.index-words-1-in-Mux.result) (get_or c.args.words.now 2 c.index-words-2.result) c.in-Mux.is p q

pub bounds-words-0-in-Extend : goal.bounds-words-0-in-Extend
bounds-words-0-in-Extend g c =
    l.word_there g.D.Domain.meaning c.args.domain.now c.args.signals.now c.args.locals.now c.args.e.now c.args.words.now c.requires.worth (o.operands_extend c.args.e.now c.in-Extend.a
    c.in-Extend.by_sign c.in-Extend.is) 0 (omega arith)

pub extend-requires-clause-value : goal.extend-requires-clause-value
extend-requires-clause-value g c =
    (l.part_at g.D.Domain.meaning c.args.domain.now c.args.signals.now c.args.locals.now c.args.e.now c.args.words.now c.requires.worth (o.operands_extend c.args.e.now c.in-Extend.a
    c.in-Extend.by_sign c.in-Extend.is) 0 (omega arith) c.in-Extend.a refl (get_or c.args.words.now 0 c.index-words-0-in-Extend.result) c.index-words-0-in-Extend.result refl).is_word.is_one

pub extend-requires-clause-some : goal.extend-requires-clause-some
extend-requires-clause-some g c = l.some_bits (map g.D.Domain.meaning.width c.args.signals.now) (map g.D.Domain.meaning.width c.args.locals.now) c.args.e.now c.requires.formed

pub extend-requires-clause-most : goal.extend-requires-clause-most
extend-requires-clause-most g c = l.most_bits (map g.D.Domain.meaning.width c.args.signals.now) (map g.D.Domain.meaning.width c.args.locals.now) c.args.e.now c.requires.formed

pub concatenate-requires-clause-some : goal.concatenate-requires-clause-some
concatenate-requires-clause-some g c =
    l.parts_some g.D.Domain.meaning c.args.domain.now c.args.signals.now c.args.locals.now c.args.e.now c.requires.formed c.args.words.now c.requires.worth c.in-Concat.field-0 c.in-Concat.is

pub concatenate-requires-clause-most : goal.concatenate-requires-clause-most
concatenate-requires-clause-most g c =
    l.parts_most g.D.Domain.meaning c.args.domain.now c.args.signals.now c.args.locals.now c.args.e.now c.requires.formed c.args.words.now c.requires.worth c.in-Concat.field-0 c.in-Concat.is

pub bounds-words-0-in-Repeat : goal.bounds-words-0-in-Repeat
bounds-words-0-in-Repeat g c =
    l.word_there g.D.Domain.meaning c.args.domain.now c.args.signals.now c.args.locals.now c.args.e.now c.args.words.now c.requires.worth (o.operands_repeat c.args.e.now c.in-Repeat.count
    c.in-Repeat.part c.in-Repeat.is) 0 (omega arith)

pub repeat-requires-clause-some : goal.repeat-requires-clause-some
repeat-requires-clause-some g c =
    let p = l.part_at g.D.Domain.meaning c.args.domain.now c.args.signals.now c.args.locals.now c.args.e.now c.args.words.now c.requires.worth (o.operands_repeat c.args.e.now c.in-Repeat.count
    c.in-Repeat.part c.in-Repeat.is) 0 (omega arith) c.in-Repeat.part refl c.index-words-0-in-Repeat.result c.index-words-0-in-Repeat.result c.index-words-0-in-Repeat.is in
    l.repeat_some g.D.Domain.meaning c.args.domain.now c.args.signals.now c.args.locals.now c.args.e.now c.requires.formed c.in-Repeat.count c.in-Repeat.part c.index-words-0-in-Repeat.result
    c.in-Repeat.is p

pub repeat-requires-clause-value : goal.repeat-requires-clause-value
repeat-requires-clause-value g c =
    (l.part_at g.D.Domain.meaning c.args.domain.now c.args.signals.now c.args.locals.now c.args.e.now c.args.words.now c.requires.worth (o.operands_repeat c.args.e.now c.in-Repeat.count
    c.in-Repeat.part c.in-Repeat.is) 0 (omega arith) c.in-Repeat.part refl c.index-words-0-in-Repeat.result c.index-words-0-in-Repeat.result c.index-words-0-in-Repeat.is).is_word

pub repeat-requires-clause-most : goal.repeat-requires-clause-most
repeat-requires-clause-most g c =
    let p = l.part_at g.D.Domain.meaning c.args.domain.now c.args.signals.now c.args.locals.now c.args.e.now c.args.words.now c.requires.worth (o.operands_repeat c.args.e.now c.in-Repeat.count
    c.in-Repeat.part c.in-Repeat.is) 0 (omega arith) c.in-Repeat.part refl c.index-words-0-in-Repeat.result c.index-words-0-in-Repeat.result c.index-words-0-in-Repeat.is in
    l.repeat_most g.D.Domain.meaning c.args.domain.now c.args.signals.now c.args.locals.now c.args.e.now c.requires.formed c.in-Repeat.count c.in-Repeat.part c.index-words-0-in-Repeat.result
    c.in-Repeat.is p

pub unreachable-requires : goal.unreachable-requires
unreachable-requires g c = l.no_call c.args.e.now c.in-Call.function c.in-Call.arguments c.in-Call.is c.requires.plain

pub returns-in-Const-clause-made : goal.returns-in-Const-clause-made
returns-in-Const-clause-made g c =
    IfOk-weaker c.constant.result _ _ (λ r made. l.made_constant g.D.Domain.meaning c.args.domain.now c.args.signals.now c.args.locals.now c.args.e.now c.requires.formed c.constant.new.self r
    c.in-Const.bits c.in-Const.is made) c.constant.ensures.made

pub returns-in-Signal-clause-made : goal.returns-in-Signal-clause-made
returns-in-Signal-clause-made g c =
    IfOk-weaker c.copy.result _ _ (λ r made. l.made_signal g.D.Domain.meaning c.args.domain.now c.args.signals.now c.args.locals.now c.args.e.now c.requires.formed g.met.D.Domain.as_wide
    c.copy.new.self r c.in-Signal.s c.index-signals-s.result c.in-Signal.is c.index-signals-s.is c.requires.values made) c.copy.ensures.made

pub returns-in-Local-clause-made : goal.returns-in-Local-clause-made
returns-in-Local-clause-made g c =
    IfOk-weaker c.copy-in-Local.result _ _ (λ r made. l.made_local g.D.Domain.meaning c.args.domain.now c.args.signals.now c.args.locals.now c.args.e.now c.requires.formed c.copy-in-Local.new.self r
    c.in-Local.k c.index-locals-k.result c.in-Local.is c.index-locals-k.is made) c.copy-in-Local.ensures.made

pub returns-in-Some-clause-made : goal.returns-in-Some-clause-made
returns-in-Some-clause-made g c =
    let fits : SFits w64 c.in-Select.low = search rules in IfOk-weaker c.select.result _ _ (λ r made. l.made_signal_select g.D.Domain.meaning c.args.domain.now c.args.signals.now c.args.locals.now
    c.args.e.now c.requires.formed g.met.D.Domain.as_wide c.select.new.self r c.in-Select.base c.get.result.now c.in-Select.low _ c.in-Some.s c.index-signals-s-in-Some.result c.in-Select.is
    c.get.ensures (to_z-of_z w64 c.in-Select.low fits) c.in-Some.ensures c.index-signals-s-in-Some.is c.requires.values made) c.select.ensures.made

pub returns-in-None-clause-made : goal.returns-in-None-clause-made
returns-in-None-clause-made g c =
    let p = l.part_at g.D.Domain.meaning c.args.domain.now c.args.signals.now c.args.locals.now c.args.e.now c.args.words.now c.requires.worth (o.operands_select c.args.e.now c.in-Select.base
    c.in-Select.low c.in-Select.is (subst IsNoSignal c.get.ensures c.in-None.ensures)) 0 (omega arith) c.in-Select.base refl (get_or c.args.words.now 0 c.index-words-0.result) c.index-words-0.result
    refl in
    let fits : SFits w64 c.in-Select.low = search rules in IfOk-weaker c.select-in-None.result _ _ (λ r made. l.made_select g.D.Domain.meaning c.args.domain.now c.args.signals.now c.args.locals.now
    c.args.e.now c.requires.formed c.select-in-None.new.self r c.in-Select.base c.in-Select.low _ (get_or c.args.words.now 0 c.index-words-0.result) c.in-Select.is (to_z-of_z w64 c.in-Select.low fits)
    p made) c.select-in-None.ensures.made

pub returns-in-SelectAt-clause-made : goal.returns-in-SelectAt-clause-made
returns-in-SelectAt-clause-made g c =
    let p = l.part_at g.D.Domain.meaning c.args.domain.now c.args.signals.now c.args.locals.now c.args.e.now c.args.words.now c.requires.worth (o.operands_select_at c.args.e.now c.in-SelectAt.base
    c.in-SelectAt.index c.in-SelectAt.offset c.in-SelectAt.down c.in-SelectAt.is) 0 (omega arith) c.in-SelectAt.base refl (get_or c.args.words.now 0 c.index-words-0-in-SelectAt.result)
    c.index-words-0-in-SelectAt.result refl in
    let q = l.part_at g.D.Domain.meaning c.args.domain.now c.args.signals.now c.args.locals.now c.args.e.now c.args.words.now c.requires.worth (o.operands_select_at c.args.e.now c.in-SelectAt.base
    c.in-SelectAt.index c.in-SelectAt.offset c.in-SelectAt.down c.in-SelectAt.is) 1 (omega arith) c.in-SelectAt.index refl c.index-words-1.result c.index-words-1.result c.index-words-1.is in
    let fits : SFits w64 c.in-SelectAt.offset = search rules in IfOk-weaker c.select_at.result _ _ (λ r made. l.made_select_at g.D.Domain.meaning c.args.domain.now c.args.signals.now c.args.locals.now
    c.args.e.now c.requires.formed c.select_at.new.domain r c.in-SelectAt.base c.in-SelectAt.index c.get-in-SelectAt.result.now c.in-SelectAt.offset _ c.in-SelectAt.down (get_or c.args.words.now 0
    c.index-words-0-in-SelectAt.result) c.index-words-1.result c.in-SelectAt.is c.get-in-SelectAt.ensures (to_z-of_z w64 c.in-SelectAt.offset fits) p q made) c.select_at.ensures.made

pub returns-in-Unary-clause-made : goal.returns-in-Unary-clause-made
returns-in-Unary-clause-made g c =
    let p = l.part_at g.D.Domain.meaning c.args.domain.now c.args.signals.now c.args.locals.now c.args.e.now c.args.words.now c.requires.worth (o.operands_unary c.args.e.now c.in-Unary.op c.in-Unary.a
    c.in-Unary.is) 0 (omega arith) c.in-Unary.a refl (get_or c.args.words.now 0 c.index-words-0-in-Unary.result) c.index-words-0-in-Unary.result refl in
    IfOk-weaker c.unary.result _ _ (λ r made. l.made_unary g.D.Domain.meaning c.args.domain.now c.args.signals.now c.args.locals.now c.args.e.now c.requires.formed c.unary.new.self r c.in-Unary.op
    c.in-Unary.a (get_or c.args.words.now 0 c.index-words-0-in-Unary.result) c.in-Unary.is p made) c.unary.ensures.made

pub returns-in-Binary-clause-made : goal.returns-in-Binary-clause-made
returns-in-Binary-clause-made g c =
    let p = l.part_at g.D.Domain.meaning c.args.domain.now c.args.signals.now c.args.locals.now c.args.e.now c.args.words.now c.requires.worth (o.operands_binary c.args.e.now c.in-Binary.op
    c.in-Binary.a c.in-Binary.b c.in-Binary.is) 0 (omega arith) c.in-Binary.a refl (get_or c.args.words.now 0 c.index-words-0-in-Binary.result) c.index-words-0-in-Binary.result refl in
    let q = l.part_at g.D.Domain.meaning c.args.domain.now c.args.signals.now c.args.locals.now c.args.e.now c.args.words.now c.requires.worth (o.operands_binary c.args.e.now c.in-Binary.op
    c.in-Binary.a c.in-Binary.b c.in-Binary.is) 1 (omega arith) c.in-Binary.b refl (get_or c.args.words.now 1 c.index-words-1-in-Binary.result) c.index-words-1-in-Binary.result refl in
    IfOk-weaker c.binary.result _ _ (λ r made. l.made_binary g.D.Domain.meaning c.args.domain.now c.args.signals.now c.args.locals.now c.args.e.now c.requires.formed c.binary.new.self r c.in-Binary.op
    c.in-Binary.a c.in-Binary.b c.get-in-Binary.result.now c.get-in-Binary-2.result.now c.signed_by-signed.result (get_or c.args.words.now 0 c.index-words-0-in-Binary.result) (get_or c.args.words.now
    1 c.index-words-1-in-Binary.result) c.in-Binary.is c.get-in-Binary.ensures c.get-in-Binary-2.ensures c.signed_by-signed.ensures p q made) c.binary.ensures.made

pub returns-in-Mux-clause-made : goal.returns-in-Mux-clause-made
returns-in-Mux-clause-made g c =
    let p = l.part_at g.D.Domain.meaning c.args.domain.now c.args.signals.now c.args.locals.now c.args.e.now c.args.words.now c.requires.worth (o.operands_mux c.args.e.now c.in-Mux.c c.in-Mux.a
    c.in-Mux.b c.in-Mux.is) 0 (omega arith) c.in-Mux.c refl (get_or c.args.words.now 0 c.index-words-0-in-Mux.result) c.index-words-0-in-Mux.result refl in
    let q = l.part_at g.D.Domain.meaning c.args.domain.now c.args.signals.now c.args.locals.now c.args.e.now c.args.words.now c.requires.worth (o.operands_mux c.args.e.now c.in-Mux.c c.in-Mux.a
    c.in-Mux.b c.in-Mux.is) 1 (omega arith) c.in-Mux.a refl (get_or c.args.words.now 1 c.index-words-1-in-Mux.result) c.index-words-1-in-Mux.result refl in
    let s = l.part_at g.D.Domain.meaning c.args.domain.now c.args.signals.now c.args.locals.now c.args.e.now c.args.words.now c.requires.worth (o.operands_mux c.args.e.now c.in-Mux.c c.in-Mux.a
    c.in-Mux.b c.in-Mux.is) 2 (omega arith) c.in-Mux.b refl (get_or c.args.words.now 2 c.index-words-2.result) c.index-words-2.result refl in
    IfOk-weaker c.mux.result _ _ (λ r made. l.made_mux g.D.Domain.meaning c.args.domain.now c.args.signals.now c.args.locals.now c.args.e.now c.requires.formed c.mux.new.self r c.in-Mux.c c.in-Mux.a
    c.in-Mux.b (get_or c.args.words.now 0 c.index-words-0-in-Mux.result) (get_or c.args.words.now 1 c.index-words-1-in-Mux.result) (get_or c.args.words.now 2 c.index-words-2.result) c.in-Mux.is p q s
    made) c.mux.ensures.made

pub returns-in-Extend-clause-made : goal.returns-in-Extend-clause-made
returns-in-Extend-clause-made g c =
    let p = l.part_at g.D.Domain.meaning c.args.domain.now c.args.signals.now c.args.locals.now c.args.e.now c.args.words.now c.requires.worth (o.operands_extend c.args.e.now c.in-Extend.a
    c.in-Extend.by_sign c.in-Extend.is) 0 (omega arith) c.in-Extend.a refl (get_or c.args.words.now 0 c.index-words-0-in-Extend.result) c.index-words-0-in-Extend.result refl in
    IfOk-weaker c.extend.result _ _ (λ r made. l.made_extend g.D.Domain.meaning c.args.domain.now c.args.signals.now c.args.locals.now c.args.e.now c.requires.formed c.extend.new.self r c.in-Extend.a
    c.in-Extend.by_sign (get_or c.args.words.now 0 c.index-words-0-in-Extend.result) c.in-Extend.is p made) c.extend.ensures.made

pub returns-in_ok-value-in-Concat-clause-made : goal.returns-in_ok-value-in-Concat-clause-made
returns-in_ok-value-in-Concat-clause-made g c =
    l.made_concat g.D.Domain.meaning c.args.domain.now c.args.signals.now c.args.locals.now c.args.e.now c.requires.formed c.args.words.now c.requires.worth c.in-Concat.field-0 c.in-Concat.is
    c.concatenate.new.domain c.in_ok-value-in-Concat.field-0 c.in_ok-value-in-Concat.ensures.made

pub returns-in_ok-value-in-Repeat-clause-made : goal.returns-in_ok-value-in-Repeat-clause-made
returns-in_ok-value-in-Repeat-clause-made g c =
    let p = l.part_at g.D.Domain.meaning c.args.domain.now c.args.signals.now c.args.locals.now c.args.e.now c.args.words.now c.requires.worth (o.operands_repeat c.args.e.now c.in-Repeat.count
    c.in-Repeat.part c.in-Repeat.is) 0 (omega arith) c.in-Repeat.part refl c.index-words-0-in-Repeat.result c.index-words-0-in-Repeat.result c.index-words-0-in-Repeat.is in
    l.made_repeat g.D.Domain.meaning c.args.domain.now c.args.signals.now c.args.locals.now c.args.e.now c.requires.formed c.repeat.new.domain c.in_ok-value-in-Repeat.field-0 c.in-Repeat.count
    c.in-Repeat.part c.index-words-0-in-Repeat.result c.in-Repeat.is p c.in_ok-value-in-Repeat.ensures.made
