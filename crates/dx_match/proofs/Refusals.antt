-- A maker whose account does not bear a fill leaves the book, and is removed where it is stateful.
use Rattle.std.proofs.Common.{◌≡◌, ℕ, true, false, is_ok, [], ◌∷◌, ◌++◌, Result, Ok, Err, OnOk, refl, sym, ap, subst, ◌∙◌}
use Rattle.dx_types.specs.declared.OrderId.{OrderId}
use Rattle.dx_types.specs.declared.Order.{Order}
use Rattle.dx_types.specs.declared.Op.TheVariants.{Remove}
use Rattle.dx_spec.specs.State.{State, is_short_term}
use Rattle.dx_spec.specs.Operations.{remove_step}
use Rattle.dx_node_spec.specs.Taking.{Taken, leaves, with_removed, refused_maker}
use Rattle.dx_ledger.specs.declared.faults.OpFault.{OpFault}
use Rattle.dx_ledger.specs.declared.faults.OpFault.TheVariants.{Code}
use Rattle.dx_accounts.specs.Faults.{IsFaultOf}

-- a fact that does not hang on the answer
pub whatever : {A E : Type 0} (P : Type 0) (r : Result A E) → P → OnOk r P
whatever P (Ok x) p = p
whatever P (Err e) p = tt

-- a code is no good answer
pub fails : {A : Type 0} (step : Result A ℕ) (fault : OpFault) (fill code : ℕ) → fault ≡ Code fill code → IsFaultOf step fault → is_ok step ≡ false
fails step fault fill code is h = let i : IsFaultOf step (Code fill code) = subst (IsFaultOf step) is h in ap is_ok i.1

module _ (close : Taken → Taken) (id : OrderId) (t last : Taken) where
  -- a removal that is good
  pub removal_good : (s : State) (step : Result State ℕ) → step ≡ Ok s → last ≡ record (close t) { state = s; ops = (close t).ops ++ Remove id ∷ [] } → last ≡ with_removed close id t step
  unfolding with_removed
  removal_good s step e h = h ∙ sym (ap (with_removed close id t) e)

  -- and one that is refused
  pub removal_refused : (step : Result State ℕ) → is_ok step ≡ false → last ≡ t → last ≡ with_removed close id t step
  unfolding with_removed
  removal_refused (Ok s) e h = absurd (cc)
  removal_refused (Err code) e h = h

module _ (close : Taken → Taken) (maker : Order) (t u last : Taken) where
  pub refused_short : is_short_term maker.id ≡ true → last ≡ leaves maker.id t → last ≡ refused_maker close maker t
  unfolding refused_maker
  refused_short e h = h ∙ rw e refl

  pub refused_stateful : is_short_term maker.id ≡ false → u ≡ leaves maker.id t → last ≡ with_removed close maker.id u (remove_step t.state maker.id) → last ≡ refused_maker close maker t
  unfolding refused_maker
  refused_stateful e h i = i ∙ ap (λ x. with_removed close maker.id x (remove_step t.state maker.id)) h ∙ rw e refl
