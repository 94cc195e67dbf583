-- An edit whose line was read, and then what comes of it.
use Rattle.ldi_stream.proofs.Common.{Consumes, Consumes-trans, CutShort, EditHead, EditStepped, Err, HasNo, List, Ok}
use Rattle.ldi_stream.proofs.Common.{Option, Project, Result, Says, Stepped, [], announced, append_assoc, arith}
use Rattle.ldi_stream.proofs.Common.{edit_of, inl, inr, length, length-append, refl, world, ℕ, ◌++◌, ◌-◌, ◌<◌, ◌∷◌, ◌≡◌}
use Rattle.std.proofs.Common.{replicate}
use Rattle.std.proofs.lemmas.List.{length-replicate}
use Rattle.std.proofs.KnownBytes.{Keeps-refl}
use Rattle.ldmodel.specs.Commands.{Edit, edit_payload, spelling}
use Rattle.ldi_stream.specs.declared.fault.RunFault.{RunFault}
use Rattle.ldi_stream.specs.declared.fault.RunFault.TheVariants.{Read, Write, Long}
use Rattle.ldi_stream.specs.declared.head.PayloadTarget.TheVariants as target
use Rattle.ldi_stream.specs.declared.head.EditHead.TheVariants as edit
use Rattle.ldi_stream.specs.declared.head.CommandHead.TheVariants as head
use Rattle.ldi_stream.specs.declared.serve.ServeStep.{ServeStep}
use Rattle.ldi_stream.specs.declared.serve.ServeStep.TheVariants.{Next, End}
use Rattle.ldi_stream.proofs.StreamGrammar.{OneFirst, NotBegun, no_line, short_payload, bad_at_end}

-- a read failed within a line
pub cut_line : (old new : Option (List ℕ)) (out : Option (List ℕ)) (p : Project) (part : List ℕ) → HasNo 10 part
    → Consumes old new part → CutShort (world old out p) (world new out p)
cut_line old new out p part h read =
    record { part = part; none = no_line part h; read = read; wrote = Keeps-refl out; same = refl }

nothing : (bytes : List ℕ) → length bytes ≡ 0 → [] ≡ bytes
nothing [] e = refl
nothing (b ∷ bs) e = absurd (omega (arith, e))

brings : (h : EditHead) (bytes : List ℕ) → length bytes ≡ announced h → edit_payload (edit_of h bytes) ≡ bytes
brings (edit.WithPayload (target.Add name at) count) bytes e = refl
brings (edit.WithPayload (target.Replace name) count) bytes e = refl
brings (edit.WithPayload target.Script count) bytes e = refl
brings (edit.Move name to) bytes e = nothing bytes e
brings (edit.Remove name) bytes e = nothing bytes e

module _ (one_first : OneFirst) (h : EditHead) (text : List ℕ) (says : Says text (head.Edit h)) where
  cut_short : (part : List ℕ) → length part < announced h → NotBegun ((text ++ 10 ∷ []) ++ part)
  cut_short part l =
      let missing : List ℕ = replicate (announced h - length part) 0 in
      let long : length (part ++ missing) ≡ announced h = rw (length-append part missing, length-replicate)
      (omega (arith, l)) in
      let some : 0 < length missing = rw length-replicate (omega (arith, l)) in
      rw append_assoc (short_payload one_first (Edit (edit_of h (part ++ missing))) text part missing
      (says (part ++ missing) long) (brings h (part ++ missing) long) some)

  whole : (rest mid end : Option (List ℕ)) (bytes : List ℕ) → length bytes ≡ announced h
      → Consumes rest mid (text ++ 10 ∷ []) → Consumes mid end bytes
      → Consumes rest end (spelling (Edit (edit_of h bytes)))
  whole rest mid end bytes l first more =
      let all = Consumes-trans rest mid end _ _ first more in
      rw ((says bytes l).spelled, brings h bytes l) (rw append_assoc at all)

  some_line : (part : List ℕ) → 0 < length ((text ++ 10 ∷ []) ++ part)
  some_line part = rw length-append (rw length-append (omega arith))

  pub edit_stepped : (rest mid end : Option (List ℕ)) (out out' : Option (List ℕ)) (p p' : Project)
      (r : Result ServeStep RunFault) → Consumes rest mid (text ++ 10 ∷ [])
      → EditStepped (edit_of h) (announced h) (world mid out p) (world end out' p') r
      → Stepped (world rest out p) (world end out' p') r
  edit_stepped rest mid end out out' p p' (Ok Next) first s =
      record {
        command = Edit (edit_of h s.0);
        answer = s.1;
        is = (says s.0 s.2).is;
        read = whole rest mid end s.0 s.2 first s.3;
        wrote = s.4;
        reply = s.5;
      }
  edit_stepped rest mid end out out' p p' (Ok (End status)) first s =
      inr (record {
        bad = bad_at_end _ _ _ (some_line s.0) (cut_short s.0 s.1) (Consumes-trans _ _ _ _ _ first s.2) s.3;
        wrote = s.4;
        same = s.5;
        tells = s.6;
      })
  edit_stepped rest mid end out out' p p' (Err Read) first s =
      record {
        part = (text ++ 10 ∷ []) ++ s.0;
        read = Consumes-trans _ _ _ _ _ first s.2;
        none = cut_short s.0 s.1;
        wrote = s.3;
        same = s.4;
      }
  edit_stepped rest mid end out out' p p' (Err Write) first s =
      elim s [
        | inl a ↦ inl (record {
          command = Edit (edit_of h a.0);
          answer = a.1;
          n = a.2;
          is = (says a.0 a.3).is;
          read = whole rest mid end a.0 a.3 first a.4;
          wrote = a.5;
          reply = a.6;
        })
        | inr b ↦ inr (record {
          bad = bad_at_end _ _ _ (some_line b.0) (cut_short b.0 b.2) (Consumes-trans _ _ _ _ _ first b.3) b.4;
          n = b.1;
          wrote = b.5;
          same = b.6;
        })
      ]
  edit_stepped rest mid end out out' p p' (Err Long) first s = s
