use Rattle.std.proofs.Common.{ap, sym, ◌∙◌, rules}
use Rattle.oas_trapezoids.specs.Corners.{straight, plus, minus}
use Rattle.oas_trapezoids.specs.Named.{named}
use Rattle.oas_trapezoids.proofs.KindLemmas.{level_same, upright_same, kind_0, kind_1, kind_2, kind_3, kind_4, kind_5, kind_6, kind_7, kind_8, kind_9}
use Rattle.oas_trapezoids.proofs.KindLemmas.{kind_10, kind_11, kind_12, kind_13, kind_14, kind_15, kind_24, kind_25}
use Rattle.oas_trapezoids.proofs.named.named_corners.Goals as goal

pub returns-in-0 : goal.returns-in-0
returns-in-0 c =
    c.level.ensures ∙ level_same c.args.width c.args.height _ straight _ (minus c.args.height) c.straight.ensures c.minus.ensures
    ∙ kind_0 c.args.width c.args.height ∙ sym (ap (λ k. named k c.args.width c.args.height) c.in-0.is)

pub returns-in-1 : goal.returns-in-1
returns-in-1 c =
    c.level-in-1.ensures ∙ level_same c.args.width c.args.height _ straight _ (plus c.args.height) c.straight-in-1.ensures c.plus.ensures
    ∙ kind_1 c.args.width c.args.height ∙ sym (ap (λ k. named k c.args.width c.args.height) c.in-1.is)

pub returns-in-2 : goal.returns-in-2
returns-in-2 c =
    c.level-in-2.ensures ∙ level_same c.args.width c.args.height _ (plus c.args.height) _ straight c.plus-in-2.ensures c.straight-in-2.ensures
    ∙ kind_2 c.args.width c.args.height ∙ sym (ap (λ k. named k c.args.width c.args.height) c.in-2.is)

pub returns-in-3 : goal.returns-in-3
returns-in-3 c =
    c.level-in-3.ensures ∙ level_same c.args.width c.args.height _ (minus c.args.height) _ straight c.minus-in-3.ensures c.straight-in-3.ensures
    ∙ kind_3 c.args.width c.args.height ∙ sym (ap (λ k. named k c.args.width c.args.height) c.in-3.is)

pub returns-in-4 : goal.returns-in-4
returns-in-4 c =
    c.level-in-4.ensures ∙ level_same c.args.width c.args.height _ (plus c.args.height) _ (minus c.args.height) c.plus-in-4.ensures c.minus-in-4.ensures
    ∙ kind_4 c.args.width c.args.height ∙ sym (ap (λ k. named k c.args.width c.args.height) c.in-4.is)

pub returns-in-5 : goal.returns-in-5
returns-in-5 c =
    c.level-in-5.ensures ∙ level_same c.args.width c.args.height _ (minus c.args.height) _ (plus c.args.height) c.minus-in-5.ensures c.plus-in-5.ensures
    ∙ kind_5 c.args.width c.args.height ∙ sym (ap (λ k. named k c.args.width c.args.height) c.in-5.is)

pub returns-in-6 : goal.returns-in-6
returns-in-6 c =
    c.level-in-6.ensures ∙ level_same c.args.width c.args.height _ (plus c.args.height) _ (plus c.args.height) c.plus-in-6.ensures c.plus-in-6-2.ensures
    ∙ kind_6 c.args.width c.args.height ∙ sym (ap (λ k. named k c.args.width c.args.height) c.in-6.is)

pub returns-in-7 : goal.returns-in-7
returns-in-7 c =
    c.level-in-7.ensures ∙ level_same c.args.width c.args.height _ (minus c.args.height) _ (minus c.args.height) c.minus-in-7.ensures c.minus-in-7-2.ensures
    ∙ kind_7 c.args.width c.args.height ∙ sym (ap (λ k. named k c.args.width c.args.height) c.in-7.is)

pub returns-in-8 : goal.returns-in-8
returns-in-8 c =
    c.upright.ensures ∙ upright_same c.args.width c.args.height _ straight _ (plus c.args.width) c.straight-in-8.ensures c.plus-in-8.ensures
    ∙ kind_8 c.args.width c.args.height ∙ sym (ap (λ k. named k c.args.width c.args.height) c.in-8.is)

pub returns-in-9 : goal.returns-in-9
returns-in-9 c =
    c.upright-in-9.ensures ∙ upright_same c.args.width c.args.height _ straight _ (minus c.args.width) c.straight-in-9.ensures c.minus-in-9.ensures
    ∙ kind_9 c.args.width c.args.height ∙ sym (ap (λ k. named k c.args.width c.args.height) c.in-9.is)

pub returns-in-10 : goal.returns-in-10
returns-in-10 c =
    c.upright-in-10.ensures ∙ upright_same c.args.width c.args.height _ (minus c.args.width) _ straight c.minus-in-10.ensures c.straight-in-10.ensures
    ∙ kind_10 c.args.width c.args.height ∙ sym (ap (λ k. named k c.args.width c.args.height) c.in-10.is)

pub returns-in-11 : goal.returns-in-11
returns-in-11 c =
    c.upright-in-11.ensures ∙ upright_same c.args.width c.args.height _ (plus c.args.width) _ straight c.plus-in-11.ensures c.straight-in-11.ensures
    ∙ kind_11 c.args.width c.args.height ∙ sym (ap (λ k. named k c.args.width c.args.height) c.in-11.is)

pub returns-in-12 : goal.returns-in-12
returns-in-12 c =
    c.upright-in-12.ensures ∙ upright_same c.args.width c.args.height _ (minus c.args.width) _ (plus c.args.width) c.minus-in-12.ensures c.plus-in-12.ensures
    ∙ kind_12 c.args.width c.args.height ∙ sym (ap (λ k. named k c.args.width c.args.height) c.in-12.is)

pub returns-in-13 : goal.returns-in-13
returns-in-13 c =
    c.upright-in-13.ensures ∙ upright_same c.args.width c.args.height _ (plus c.args.width) _ (minus c.args.width) c.plus-in-13.ensures c.minus-in-13.ensures
    ∙ kind_13 c.args.width c.args.height ∙ sym (ap (λ k. named k c.args.width c.args.height) c.in-13.is)

pub returns-in-14 : goal.returns-in-14
returns-in-14 c =
    c.upright-in-14.ensures ∙ upright_same c.args.width c.args.height _ (minus c.args.width) _ (minus c.args.width) c.minus-in-14.ensures c.minus-in-14-2.ensures
    ∙ kind_14 c.args.width c.args.height ∙ sym (ap (λ k. named k c.args.width c.args.height) c.in-14.is)

pub returns-in-15 : goal.returns-in-15
returns-in-15 c =
    c.upright-in-15.ensures ∙ upright_same c.args.width c.args.height _ (plus c.args.width) _ (plus c.args.width) c.plus-in-15.ensures c.plus-in-15-2.ensures
    ∙ kind_15 c.args.width c.args.height ∙ sym (ap (λ k. named k c.args.width c.args.height) c.in-15.is)

pub returns-in-24 : goal.returns-in-24
returns-in-24 c =
    c.level-in-24.ensures ∙ level_same c.args.width c.args.height _ straight _ straight c.straight-in-24.ensures c.straight-in-24-2.ensures
    ∙ kind_24 c.args.width c.args.height ∙ sym (ap (λ k. named k c.args.width c.args.height) c.in-24.is)

pub returns-in-25 : goal.returns-in-25
returns-in-25 c =
    c.level-in-25.ensures ∙ level_same c.args.width c.args.height _ straight _ straight c.straight-in-25.ensures c.straight-in-25-2.ensures
    ∙ kind_25 c.args.width c.args.height ∙ sym (ap (λ k. named k c.args.width c.args.height) c.in-25.is)

pub returns-in-16 : goal.returns-in-16
returns-in-16 c = search rules
