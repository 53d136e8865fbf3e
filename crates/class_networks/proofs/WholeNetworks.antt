-- A case that is made of a judgement is the one of the valuation, and makes the sentence true.
use Rattle.std.proofs.Common.{◌≡◌, ◌≢◌, ◌∙◌, ap, ap₂, sym, refl, subst, ℕ, List, All, AllPairs, Contains, slice_index_or, ◌<◌}
use Rattle.std.specs.Prelude.{Bool, IfOk, Result, Ok, Err}
use Rattle.std.specs.declared.alloc.AllocError.{AllocError}
use Rattle.std.specs.Ordering.{nat_cmp}
use Rattle.std.specs.Cmp.{nat_cmp_total}
use Rattle.std.proofs.lemmas.Map.Lookups.{exact_unsigned}
use Rattle.csdn_core.specs.Members.{IsIn}
use Rattle.csdn_core.proofs.Members.{contains_in, in_contains}
use Rattle.csdn_core.specs.Network.{IsNetwork, Network, StaticRow, elements}
use Rattle.csdn_core.specs.Satisfied.{IsTrueIn}
use Rattle.csdn_core.specs.declared.program.Parts.{Parts}
use Rattle.csdn_core.specs.declared.syntax.Formula.{Formula}
use Rattle.csdn_core.specs.declared.terms.Sort.{Sort}
use Rattle.csdn_core.specs.declared.terms.Sort.TheVariants.{Ho, Pr, Sw}
use Rattle.clause_log.specs.Literals.{truths}
use Rattle.fol_forms.specs.Constants.{counts}
use Rattle.fol_forms.specs.Forms.{form_of}
use Rattle.decision_laws.specs.Classes.{AreOfJudgement, ListTheSame, network_of, number, state_of}
use Rattle.decision_laws.specs.Laws.{IsJudgement, IsSentence, judged, words}
use Rattle.decision_laws.proofs.Distinct.{member_at}
use Rattle.decision_laws.proofs.Downward.{law_down}
use Rattle.decision_laws.proofs.Networks.{law_listed, law_numbers}
use Rattle.ground_inst.specs.Facts.{AreFactsOf, equation_count, numbered}
use Rattle.net_structs.specs.declared.case.Case.{Case}
use Rattle.net_structs.specs.declared.row.Row.{Row}
use Rattle.net_structs.specs.Networks.{in_order, static_cmp}
use Rattle.net_structs.specs.Rows.{held, row_cmp}
use Rattle.net_structs.specs.StateTuples.{IsStateTuple}
use Rattle.net_structs.proofs.Ordered.{distinct-in_order}
use Rattle.class_networks.specs.declared.judgement.Judgement.{Judgement}
use Rattle.class_networks.specs.Cases.{HasState, IsNetworkOf, MakesTrue, ordered}
use Rattle.class_networks.specs.Made.{IsMade, fixed_rows, judged_rows, rows_in, stored_rows, values_in}
use Rattle.class_networks.specs.Numberings.{number_at, numbers_for}
use Rattle.class_networks.proofs.ClassNumbers.{constants_are, element_number, number_at_is, number_element, values_are}
use Rattle.class_networks.proofs.JudgedRows.{IsTrueRow, rows_true, true_rows}
use Rattle.class_networks.proofs.OneOrder.{exact_static, in_ordered, one_order, ordered_in, static_total}
use Rattle.class_networks.proofs.TrueRows.{fixed_are, held_is, state_tuple}

-- A network in order.

ordered_list : (N : Network) (s : Sort) → elements (ordered N) s ≡ in_order nat_cmp (elements N s)
ordered_list N Sw = refl
ordered_list N Ho = refl
ordered_list N Pr = refl

listed_same : (N : Network) → ListTheSame N (ordered N)
listed_same N = record {
  elements = λ s m. (
    (λ h. subst (λ xs. Contains xs m) (sym (ordered_list N s)) (in_contains (in_order nat_cmp (elements N s)) m (ordered_in nat_cmp_total exact_unsigned m (elements N s) (contains_in (elements N s) m h)))),
    (λ h. in_contains (elements N s) m (in_ordered nat_cmp_total exact_unsigned m (elements N s) (contains_in (in_order nat_cmp (elements N s)) m (subst (λ xs. Contains xs m) (ordered_list N s) h)))),
  );
  constants = refl;
  rows = λ row. (
    (λ h. in_contains (in_order static_cmp N.rows) row (ordered_in static_total exact_static row N.rows (contains_in N.rows row h))),
    (λ h. in_contains N.rows row (in_ordered static_total exact_static row N.rows (contains_in (in_order static_cmp N.rows) row h))),
  );
}

each_once : (N : Network) (s : Sort) → AllPairs (λ m n. m ≢ n) (elements (ordered N) s)
each_once N s = subst (AllPairs (λ m n. m ≢ n)) (sym (ordered_list N s)) (distinct-in_order (elements N s))

abbrev built : List ℕ → List ℕ → List ℕ → List ℕ → List StaticRow → Network
built sw ho pr values rows = record { switches = sw; hosts = ho; ports = pr; constants = values; rows = rows }

module _ (g : Judgement) (F : Formula) (sentence : IsSentence g.parts.now F) (are : AreFactsOf g.parts.now F g.facts.now) (judgement : IsJudgement g.parts.now F (judged g.parts.now F (truths g.valuation.now))) (c : Case) (made : IsMade g c) where
  abbrev P : Parts
  P = g.parts.now

  abbrev trues : List ℕ
  trues = g.valuation.now

  abbrev N : Network
  N = network_of P (form_of F) (judged P F (truths trues))

  is_judgement : IsJudgement P F (judged P F (truths trues))
  is_judgement = judgement

  of : AreOfJudgement P (form_of F) (judged P F (truths trues)) (number P (form_of F) (judged P F (truths trues))) N (state_of P (form_of F) (judged P F (truths trues)))
  of = law_numbers P F (judged P F (truths trues)) is_judgement

  same : (s : Sort) (a : ℕ) → a < counts P F s → number_at made.numbers s a ≡ number P (form_of F) (judged P F (truths trues)) s a
  same = number_at_is g F are made.numbers made.are_numbers

  abbrev rows : List Row
  rows = judged_rows g made.numbers

  rows_are : rows ≡ rows_in (counts P F) (number_at made.numbers) trues (numbered (counts P F) (words P F).columns (equation_count (counts P F)) (words P F).relations)
  rows_are = ap₂ (λ n us. rows_in n (number_at made.numbers) trues us) (constants_are g F are) are.relations

  all_true : (row : Row) → IsIn row rows → IsTrueRow P F trues row
  all_true row i = rows_true P F trues (number_at made.numbers) same row (subst (IsIn row) rows_are i)

  true_all : (row : Row) → IsTrueRow P F trues row → IsIn row rows
  true_all row t = subst (IsIn row) (sym rows_are) (true_rows P F trues (number_at made.numbers) same row t)

  elements_are : (s : Sort) → in_order nat_cmp (numbers_for made.numbers s) ≡ in_order nat_cmp (elements N s)
  elements_are s =
      one_order nat_cmp_total exact_unsigned (numbers_for made.numbers s) (elements N s)
      (number_element g F are made.numbers made.are_numbers N (state_of P (form_of F) (judged P F (truths trues))) of s)
      (element_number g F are made.numbers made.are_numbers N (state_of P (form_of F) (judged P F (truths trues))) of s)

  network_is : c.network ≡ ordered N
  network_is =
      made.network
      ∙ ap₂ (λ sw ho. built sw ho (in_order nat_cmp made.numbers.ports) (values_in P made.numbers) (in_order static_cmp (fixed_rows P rows))) (elements_are Sw) (elements_are Ho)
      ∙ ap₂ (λ pr values. built (in_order nat_cmp N.switches) (in_order nat_cmp N.hosts) pr values (in_order static_cmp (fixed_rows P rows))) (elements_are Pr) (values_are g F are made.numbers made.are_numbers)
      ∙ ap (built (in_order nat_cmp N.switches) (in_order nat_cmp N.hosts) (in_order nat_cmp N.ports) N.constants) (fixed_are P F trues rows all_true true_all)

  abbrev kept : List Row
  kept = in_order row_cmp (stored_rows P rows)

  holds_state : held kept ≡ state_of P (form_of F) (judged P F (truths trues))
  holds_state = held_is P F trues rows all_true true_all

  with_state : (p : List Row → Type 0) → p kept → HasState c.state p
  with_state p h = subst (λ state. HasState state p) (sym made.state) h

  pub is_network_of : IsNetworkOf g.parts.now F (truths g.valuation.now) c
  is_network_of = record {
    network = network_is;
    state = with_state (λ xs. held xs ≡ state_of P (form_of F) (judged P F (truths trues))) holds_state;
    packet = made.packet;
  }

  in_network : IsNetwork P (ordered N) × AreOfJudgement P (form_of F) (judged P F (truths trues)) (number P (form_of F) (judged P F (truths trues))) (ordered N) (state_of P (form_of F) (judged P F (truths trues)))
  in_network = law_listed P F (judged P F (truths trues)) is_judgement (ordered N) (listed_same N) (each_once N)

  is_true : IsTrueIn P F (ordered N) (held kept)
  is_true =
      subst (IsTrueIn P F (ordered N)) (sym holds_state)
      (law_down P F (judged P F (truths trues)) (number P (form_of F) (judged P F (truths trues))) (ordered N) (state_of P (form_of F) (judged P F (truths trues))) sentence is_judgement in_network.1)

  pub makes_true : MakesTrue g.parts.now F c
  makes_true = record {
    network = subst (IsNetwork P) (sym network_is) in_network.0;
    tuples = with_state (All (IsStateTuple P c.network))
        (λ k d l.
        subst (λ M. IsStateTuple P M (slice_index_or kept k d)) (sym network_is)
        (state_tuple P F trues rows all_true true_all (ordered N) in_network.1.home (slice_index_or kept k d) (member_at kept k d l)));
    state = with_state (λ xs. IsTrueIn P F c.network (held xs)) (subst (λ M. IsTrueIn P F M (held kept)) (sym network_is) is_true);
    packet = made.packet;
  }

-- what is answered, where a program's judgement is read
pub record IsAnswer (P : Parts) (F : Formula) (v : ℕ → Bool) (answer : Result Case AllocError) : Type 0 where
  pub network : IfOk answer (IsNetworkOf P F v)
  pub case : IfOk answer (MakesTrue P F)

made_answer : (g : Judgement) (F : Formula) → IsSentence g.parts.now F → AreFactsOf g.parts.now F g.facts.now → IsJudgement g.parts.now F (judged g.parts.now F (truths g.valuation.now)) → (answer : Result Case AllocError) → IfOk answer (IsMade g) → IsAnswer g.parts.now F (truths g.valuation.now) answer
made_answer g F sentence are judgement (Ok c) made = record { network = is_network_of g F sentence are judgement c made; case = makes_true g F sentence are judgement c made }
made_answer g F sentence are judgement (Err e) made = record { network = tt; case = tt }

pub answered : (g : Judgement) (Q : Parts) (F : Formula) → g.parts.now ≡ Q → IsSentence Q F → AreFactsOf Q F g.facts.now → IsJudgement Q F (judged Q F (truths g.valuation.now)) → (answer : Result Case AllocError) → IfOk answer (IsMade g) → IsAnswer Q F (truths g.valuation.now) answer
answered g Q F same sentence are judgement answer made =
    subst (λ R. IsAnswer R F (truths g.valuation.now) answer) same
    (made_answer g F (subst (λ R. IsSentence R F) (sym same) sentence) (subst (λ R. AreFactsOf R F g.facts.now) (sym same) are)
    (subst (λ R. IsJudgement R F (judged R F (truths g.valuation.now))) (sym same) judgement) answer made)
