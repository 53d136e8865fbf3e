-- Needs, and literals of facts.
use Rattle.std.proofs.Common.{◌≡◌, ◌∙◌, ℕ, ◌+◌, Bool, ap}
use mathlib.Core.Path.{fun_ext}
use Rattle.csdn_core.specs.declared.terms.Sort.{Sort}
use Rattle.csdn_core.specs.declared.terms.Sort.TheVariants.{Ho, Pr, Sw}
use Rattle.clause_log.specs.Literals.{literal_true, truths}
use Rattle.fol_forms.specs.Constants.{need}
use Rattle.fol_forms.specs.Counts.{count_of}
use Rattle.fol_forms.specs.Forms.{Form}
use Rattle.fol_forms.specs.declared.instances.Counts.{Counts}
use Rattle.decision_laws.specs.Copies.{Fact}
use Rattle.decision_laws.proofs.Basics.{signed-same}
use Rattle.ground_inst.specs.Facts.{num_of}
use Rattle.ground_inst.specs.Walk.{literal_of, ways_of}
use Rattle.copy_truth.specs.declared.reading.Reading.{Reading}
use Rattle.copy_truth.specs.Said.{said_by}
use Rattle.copy_truth.specs.Judged.{said_signed}

past_by : (base own : Counts) (f : Form) (a b c : ℕ) → a ≡ base.sw + own.sw → b ≡ base.ho + own.ho → c ≡ base.pr + own.pr → ((t : Sort) → count_of own t ≡ need f t) → (t : Sort) → count_of (record { sw = a; ho = b; pr = c }) t ≡ count_of base t + need f t
unfolding count_of
past_by base own f a b c d e g h Sw = d ∙ ap (λ z. base.sw + z) (h Sw)
past_by base own f a b c d e g h Ho = e ∙ ap (λ z. base.ho + z) (h Ho)
past_by base own f a b c d e g h Pr = g ∙ ap (λ z. base.pr + z) (h Pr)

pub past_counts : (base own : Counts) (f : Form) (a b c : ℕ) → a ≡ base.sw + own.sw → b ≡ base.ho + own.ho → c ≡ base.pr + own.pr → ((t : Sort) → count_of own t ≡ need f t) → count_of (record { sw = a; ho = b; pr = c }) ≡ (λ t. count_of base t + need f t)
past_counts base own f a b c d e g h = fun_ext (past_by base own f a b c d e g h)

pub said_literal : (r : Reading) (sign : Bool) (fact : Fact) → literal_true (truths r.trues.now) (literal_of (ways_of r.names) sign fact) ≡ said_signed r sign fact
unfolding said_by
said_literal r sign fact = signed-same sign (truths r.trues.now (num_of r.names.facts.now fact))
