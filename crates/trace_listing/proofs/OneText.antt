-- A journal has one trace.
use Rattle.std.proofs.Common.{◌≡◌, ◌∙◌, ap, sym, refl, ℕ, false, true≢false, List, ◌++◌, Option, Some, None}
use Rattle.csdn_core.specs.declared.program.Parts.{Parts}
use Rattle.csdn_core.specs.Network.{Network, State}
use Rattle.net_structs.specs.Rows.{held}
use Rattle.net_structs.proofs.OneList.{one_list}
use Rattle.net_text.specs.NetText.{net_text}
use Rattle.journal_text.specs.declared.note.Note.{Note}
use Rattle.trace_listing.specs.declared.trace.Ending.{Ending}
use Rattle.trace_listing.specs.declared.trace.Ending.TheVariants.{Unbroken, Broken, Stopped}
use Rattle.trace_listing.specs.Traces.{Traced, traced, opening_at, IsEnding, IsTrace, has_last, was_stopped, is_stopped, last_case}

none_is_not_some : (o : Option State) (y : State) → o ≡ None → o ≡ Some y → ⊥
none_is_not_some o y none some = cc

same_state : (o : Option State) (y z : State) → o ≡ Some y → o ≡ Some z → y ≡ z
same_state o y z is also = cc

-- the last state of an ending that is no refusal
last_is : (t : Traced) (ending : Ending) (y : State) → IsEnding t ending y → is_stopped ending ≡ false → t.last ≡ Some y
last_is t Unbroken y is going = is.0
last_is t Broken y is going = is.0
last_is t Stopped y is going = absurd (true≢false going)

one_ending : (t : Traced) (a b : Ending) (y z : State) → IsEnding t a y → IsEnding t b z → is_stopped a ≡ false → is_stopped b ≡ false → a ≡ b
one_ending t Unbroken Unbroken y z is also going goes = refl
one_ending t Broken Broken y z is also going goes = refl
one_ending t Unbroken Broken y z is also going goes = absurd (true≢false (sym is.1 ∙ also.1))
one_ending t Broken Unbroken y z is also going goes = absurd (true≢false (sym also.1 ∙ is.1))
one_ending t Stopped b y z is also going goes = absurd (true≢false going)
one_ending t Unbroken Stopped y z is also going goes = absurd (true≢false goes)
one_ending t Broken Stopped y z is also going goes = absurd (true≢false goes)

module _ (P : Parts) (N : Network) (x : State) (notes : List Note) where
  pub one_text : (text other : List ℕ) (ending end : Ending) → IsTrace P N x notes text ending → IsTrace P N x notes other end → (text ≡ other) × (ending ≡ end)
  one_text text other ending end (has_last rows rising is text_is going) (has_last more also ends other_is goes) =
      let t = traced P N 1 (opening_at x) notes in
      let same : rows ≡ more = one_list rows more rising also (same_state t.last (held rows) (held more) (last_is t ending (held rows) is going) (last_is t end (held more) ends goes)) in
      (text_is ∙ ap (λ rs. t.text ++ net_text P (last_case N rs)) same ∙ sym other_is, one_ending t ending end (held rows) (held more) is ends going goes)
  one_text text other ending end (has_last rows rising is text_is going) (was_stopped none other_is stopped) =
      let t = traced P N 1 (opening_at x) notes in
      absurd (none_is_not_some t.last (held rows) none (last_is t ending (held rows) is going))
  one_text text other ending end (was_stopped none text_is stopped) (has_last rows rising is other_is going) =
      let t = traced P N 1 (opening_at x) notes in
      absurd (none_is_not_some t.last (held rows) none (last_is t end (held rows) is going))
  one_text text other ending end (was_stopped none text_is stopped) (was_stopped nothing other_is stops) = (text_is ∙ sym other_is, stopped ∙ sym stops)
