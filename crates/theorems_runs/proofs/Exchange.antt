-- Set and clear commands with nothing between them.
-- Assumes nothing.
use mathlib.Core.Path.{◌≡◌, refl, sym, ◌∙◌, ap, ap₂}
use mathlib.Core.Bool.{Bool, true, false, not, ◌&&◌, beq}
use mathlib.Core.List.{List, [], ◌∷◌}
use mathlib.Core.Logic.{◌↔◌}
use Prim.Native.Nat.{ℕ}
use borrow.Author.Tests.{eqb-true, not-true}
use Rattle.rules.specs.Bus.{write}
use Rattle.rules.specs.Masks.{CPUI, DMAI}
use Rattle.rules.specs.Refusals.{out_of_range}
use Rattle.rules.specs.Runs.{answers, final}
use Rattle.rules.specs.Codes.{command_of}
use Rattle.rules.specs.Step.{after, stepped}
use Rattle.rules.specs.declared.Action.{Action}
use Rattle.rules.specs.declared.Action.TheVariants.{SoftwareReset, ClearVtr, ClearSww, ClearFatl, SetCpui, SetDmai}
use Rattle.rules.specs.declared.Command.{Command}
use Rattle.rules.specs.declared.Command.TheVariants.{Act}
use Rattle.rules.specs.declared.Cycle.{Cycle}
use Rattle.rules.specs.declared.Stepped.{Stepped}
use Rattle.rules.specs.declared.Unit.{Unit}
use Rattle.theorems_runs.specs.Apart.{apart}
use Rattle.theorems_runs.specs.Cycles.{selected_command, sets_and_clears, set_or_clear, writes}
use Rattle.theorems_runs.specs.Exchange.{Exchange, FirstAlone, SecondAlone, SameAnswers, part, clears_trap}
use Rattle.theorems_runs.specs.Exchange.{ExchangesExactly, AloneExactly, AnswersExactly}
use Rattle.theorems_runs.specs.Exchange.{CpuiTwice, DmaiTwice, CpuiDmai, SwwFatl, VtrBeforeReset, VtrAfterReset}
use Rattle.theorems_runs.specs.Refusal.{admitted}
use Rattle.theorems_runs.specs.Sequences.{Every, among, all}
use Rattle.theorems_runs.specs.Undamaged.{Undamaged}
use Rattle.theorems_runs.proofs.Apart.{not_exchanged, only_part, only_alike}
use Rattle.theorems_runs.proofs.Codes.{code_of, by_number, past_list}
use Rattle.theorems_runs.proofs.Effects.{done, command-place, command-decided, left}
use Rattle.theorems_runs.proofs.Effects.{raises, resets, effect, does, said, request, acted_on, act_done}
use Rattle.theorems_runs.proofs.Effects.{either, within, idle, clash, no_clash, passes, is_reset, request_after}
use Rattle.theorems_runs.proofs.Tests.{and_l, and_r, same, of_each, all_true}
use Rattle.theorems_runs.proofs.Undamaged.{undamaged_after}

-- Writes

writing : (n : ℕ) (c : Cycle) → writes n c ≡ true → c.read ≡ false
writing n c w =
    let w₃ : (not (out_of_range c) && selected_command c && write c) ≡ true = and_l (not (out_of_range c) && selected_command c && write c) _ w in
    not-true _ (and_r (not (out_of_range c) && selected_command c) _ w₃)

-- what all the laws rest on: a write that is refused neither by 2 nor by 1 does what its code stands for
obeyed : (n : ℕ) (u : Unit) (c : Cycle) → Undamaged u → writes n c ≡ true → stepped u c ≡ done (command_of n) u c
unfolding after
obeyed n u c h w =
    let code : c.offset ≡ n = eqb-true _ _ (and_r (not (out_of_range c) && selected_command c && write c) _ w) in
    let w₂ : (not (out_of_range c) && selected_command c) ≡ true =
    and_l (not (out_of_range c) && selected_command c) _ (and_l (not (out_of_range c) && selected_command c && write c) _ w) in
    let taken : admitted u c ≡ true = rw h.sound (and_l (not (out_of_range c)) _ w₂) in
    let selected : selected_command c ≡ true = and_r (not (out_of_range c)) _ w₂ in
    rw (command-decided u c taken selected, command-place u c taken selected, writing n c w, code)

-- By their codes

abbrev actions : List Action
actions = SoftwareReset ∷ ClearVtr ∷ ClearSww ∷ ClearFatl ∷ SetCpui ∷ SetDmai ∷ []

of_actions : (P : Action → Type 0) → Every P actions → (a : Action) → P a
of_actions P h SoftwareReset = h.0
of_actions P h ClearVtr = h.1.0
of_actions P h ClearSww = h.1.1.0
of_actions P h ClearFatl = h.1.1.1.0
of_actions P h SetCpui = h.1.1.1.1.0
of_actions P h SetDmai = h.1.1.1.1.1.0

reset_code : (a : Action) → clears_trap (code_of a) ≡ is_reset (effect a)
reset_code = of_actions (λ a. clears_trap (code_of a) ≡ is_reset (effect a)) (refl, (refl, (refl, (refl, (refl, (refl, refl))))))

stands_for : (a : Action) → command_of (code_of a) ≡ Act a
unfolding command_of
stands_for = of_actions (λ a. command_of (code_of a) ≡ Act a) (refl, (refl, (refl, (refl, (refl, (refl, refl))))))

by_action : (P : ℕ → Type 0) → ((a : Action) → P (code_of a)) → (x : ℕ) → set_or_clear x ≡ true → P x
by_action P f = of_each P sets_and_clears (f SoftwareReset, (f ClearVtr, (f ClearSww, (f ClearFatl, (f SetCpui, (f SetDmai, refl))))))

acts : (a : Action) (u : Unit) (c : Cycle) → Undamaged u → writes (code_of a) c ≡ true → stepped u c ≡ acted_on (effect a) u
acts a u c h w = obeyed (code_of a) u c h w ∙ ap (λ (m : Command). done m u c) (stands_for a) ∙ act_done a u c

-- Two writes

exchange : (a : Action) (y : ℕ) → clash (effect a) (command_of y) ≡ false → Exchange (code_of a) y
unfolding final
exchange a y t u c d h v w =
    ap left (obeyed y (stepped u c).unit d (undamaged_after u c h) w)
    ∙ ap (λ (s : Stepped). left (done (command_of y) (left s) d)) (acts a u c h v)
    ∙ passes (effect a) (command_of y) u d h.size (writing y d w) t
    ∙ sym (ap left (acts a (stepped u d).unit c (undamaged_after u d h) v) ∙ ap (λ (s : Stepped). does (effect a) (left s)) (obeyed y u d h w))

alone : (a b : Action) → within (effect b) (effect a) ≡ true → FirstAlone (code_of a) (code_of b)
unfolding final
alone a b t u c d h v w =
    ap left (acts b (stepped u c).unit d (undamaged_after u c h) w)
    ∙ ap (λ (s : Stepped). does (effect b) (left s)) (acts a u c h v)
    ∙ idle (effect a) (effect b) u t
    ∙ sym (ap left (acts a u c h v))

turned : (x y : ℕ) → Exchange x y → FirstAlone y x ↔ SecondAlone x y
turned x y e = (λ f u c d h v w. e u c d h v w ∙ f u d c h w v, λ s u d c h w v. sym (e u c d h v w) ∙ s u c d h v w)

two_said : (a b : Action) (u : Unit) (c d : Cycle) → Undamaged u → writes (code_of a) c ≡ true → writes (code_of b) d ≡ true
    → answers u (c ∷ d ∷ []) ≡ said (request (does (effect a) u)) ∷ said (request (does (effect b) (does (effect a) u))) ∷ []
unfolding answers
two_said a b u c d h v w =
    ap₂ (λ (s t : Stepped). s.answer ∷ t.answer ∷ []) (acts a u c h v)
    (acts b (stepped u c).unit d (undamaged_after u c h) w ∙ ap (λ (s : Stepped). acted_on (effect b) (left s)) (acts a u c h v))

same_answers : (a b : Action) → is_reset (effect a) ≡ is_reset (effect b) → SameAnswers (code_of a) (code_of b)
same_answers a b t u c d h v w =
    two_said a b u c d h v w
    ∙ ap₂ (λ (p q : Bool). said p ∷ said q ∷ [])
    (request_after (effect a) u ∙ ap (λ (t : Bool). not t && request u) t ∙ sym (request_after (effect b) u))
    (ap request (either (effect a) (effect b) u))
    ∙ sym (two_said b a u d c h w v)

-- Every pair

clashes : (a : Action) (y : ℕ) → clash (effect a) (command_of y) ≡ among y (apart (code_of a))
unfolding command_of
clashes SoftwareReset y = by_number (clash resets) (λ y. among y (apart 0x10)) refl refl (past_list (apart 0x10) refl) y
clashes ClearVtr y = refl
clashes ClearSww y = refl
clashes ClearFatl y = refl
clashes SetCpui y = by_number (clash (raises CPUI)) (λ y. among y (apart 0x15)) refl refl (past_list (apart 0x15) refl) y
clashes SetDmai y = by_number (clash (raises DMAI)) (λ y. among y (apart 0x16)) refl refl (past_list (apart 0x16) refl) y

pub exchanges_exactly : ExchangesExactly
exchanges_exactly x y h =
    (go (among y (apart x)) refl, by_action (λ x. among y (apart x) ≡ false → Exchange x y) (λ a e. exchange a y (clashes a y ∙ e)) x h)
  where
    go : (t : Bool) → among y (apart x) ≡ t → Exchange x y → t ≡ false
    go true e claim = absurd (not_exchanged x y e claim)
    go false e claim = refl

sets_and_clears_lem : (x y : ℕ) → set_or_clear x ≡ true → set_or_clear y ≡ true → Exchange x y
sets_and_clears_lem x y h k =
    by_action (λ x. Exchange x y)
    (λ a. by_action (Exchange (code_of a)) (λ b. exchange a (code_of b) (ap (clash (effect a)) (stands_for b) ∙ no_clash (effect a) b)) y k) x h

parts : (b a : Action) → within (effect b) (effect a) ≡ part (code_of b) (code_of a)
parts b a =
    same _ _
    (of_actions (λ b. agree a b ≡ true)
    (all_true (agree a) actions (of_actions (λ a. all (agree a) actions ≡ true) (all_true (λ a. all (agree a) actions) actions refl) a)) b)
  where
    agree : (a b : Action) → Bool
    agree a b = beq (within (effect b) (effect a)) (part (code_of b) (code_of a))

pub alone_exactly : AloneExactly
alone_exactly x y h k =
    let either_order : FirstAlone y x ↔ SecondAlone x y = turned x y (sets_and_clears_lem x y h k) in
    ((only_part x y h k, first x y h k), (λ s. only_part y x k h (either_order.1 s), λ e. either_order.0 (first y x k h e)))
  where
    first : (x y : ℕ) → set_or_clear x ≡ true → set_or_clear y ≡ true → part y x ≡ true → FirstAlone x y
    first x y h k =
        by_action (λ x. part y x ≡ true → FirstAlone x y)
        (λ a. by_action (λ y. part y (code_of a) ≡ true → FirstAlone (code_of a) y) (λ b e. alone a b (parts b a ∙ e)) y k) x h

pub answers_exactly : AnswersExactly
answers_exactly x y h k = (only_alike x y h k, alike x y h k)
  where
    alike : (x y : ℕ) → set_or_clear x ≡ true → set_or_clear y ≡ true → clears_trap x ≡ clears_trap y → SameAnswers x y
    alike x y h k =
        by_action (λ x. clears_trap x ≡ clears_trap y → SameAnswers x y)
        (λ a.
        by_action (λ y. clears_trap (code_of a) ≡ clears_trap y → SameAnswers (code_of a) y)
        (λ b e. same_answers a b (sym (reset_code a) ∙ e ∙ reset_code b)) y k) x h

-- The ticket's laws

pub cpui_twice : CpuiTwice
cpui_twice = (alone_exactly _ _ refl refl).0.1 refl

pub dmai_twice : DmaiTwice
dmai_twice = (alone_exactly _ _ refl refl).0.1 refl

pub cpui_dmai : CpuiDmai
cpui_dmai = (exchanges_exactly _ _ refl).1 refl

pub sww_fatl : SwwFatl
sww_fatl = (exchanges_exactly _ _ refl).1 refl

pub vtr_before_reset : VtrBeforeReset
vtr_before_reset = (alone_exactly _ _ refl refl).1.1 refl

pub vtr_after_reset : VtrAfterReset
vtr_after_reset = (alone_exactly _ _ refl refl).0.1 refl
