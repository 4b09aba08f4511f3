-- What a source gave, one read after another, counted and not kept.
use Rattle.std.proofs.Common.{◌≡◌, ℕ, ◌+◌, ◌<◌, ◌≤◌, List, [], ◌++◌, length, refl, sym, ap, subst, take, Option, IfSome, append_assoc, length-append, length-take, arith}
use Rattle.std.specs.Io.KnownBytes.{Consumes, IsAtEnd}
use Rattle.std.proofs.KnownBytes.{Consumes-nil, Consumes-trans}
use Rattle.fort_io.specs.Devices.{GivesPast}
use Rattle.fort_io.proofs.Given.{Consumes-over}
use Rattle.fort_sexpr.specs.declared.fault.SFault.{SFault}
use Rattle.fort_sexpr.specs.declared.fault.SFault.TheVariants.{Memory}
use Rattle.fort_sexpr.specs.declared.fault.SFault.TheVariants as faults
use Rattle.fort_sexpr.specs.Faults.{IsFirstFaultOf, IsFirstFaultUnlessMemory, IsFaultOfFrontUnlessMemory}
use Rattle.fort_sexpr.proofs.Fronts.{fault_of_all}
use Rattle.fort_intake.specs.Unread.{IsTextAtFault, IsPassed}

-- the source gave so many bytes
pub record IsPassing (count : ℕ) (old new : Option (List ℕ)) : Type 0 where
  pub bytes : List ℕ
  pub given : Consumes old new bytes
  pub size : length bytes ≡ count

pub passing_begun : (old : Option (List ℕ)) → IsPassing 0 old old
passing_begun old = record { bytes = []; given = Consumes-nil old; size = refl }

-- and then the front of a buffer
module _ (count : ℕ) (old mid new : Option (List ℕ)) (p : IsPassing count old mid) (buf : List ℕ) (n : ℕ) (fits : n ≤ length buf) (moved : Consumes mid new (take n buf)) where
  sized : length (take n buf) ≡ n
  sized = omega (arith, length-take n buf, fits)

  pub passing_more : IsPassing (count + n) old new
  passing_more = record {
    bytes = p.bytes ++ take n buf;
    given = Consumes-trans old mid new p.bytes (take n buf) p.given moved;
    size = omega (arith, length-append p.bytes (take n buf), sized, p.size);
  }

  pub passing_end : (left : ℕ) → count ≤ left → n ≡ 0 → IsAtEnd new → IsPassed left old new
  passing_end left l e end = record {
    bytes = p.bytes ++ take n buf;
    given = Consumes-trans old mid new p.bytes (take n buf) p.given moved;
    end = end;
    within = omega (arith, length-append p.bytes (take n buf), sized, p.size);
  }

  pub passing_past : (left piece : ℕ) → count ≤ left → left < count + n → length buf ≤ piece → GivesPast left piece old new
  passing_past left piece l past size = record {
    front = p.bytes;
    last = take n buf;
    within = omega (arith, p.size);
    one_piece = omega (arith, sized);
    past = omega (arith, length-append p.bytes (take n buf), sized, p.size);
    given = Consumes-trans old mid new p.bytes (take n buf) p.given moved;
  }

first_fault : (bytes : List ℕ) (fault : SFault) → (fault ≡ Memory → ⊥) → IsFirstFaultUnlessMemory bytes fault → IsFirstFaultOf bytes fault
first_fault bytes faults.Memory n h = absurd (n refl)
first_fault bytes (faults.BadByte i) n h = h
first_fault bytes (faults.ExtraClose i) n h = h
first_fault bytes (faults.Unclosed i) n h = h
first_fault bytes (faults.TooDeep i) n h = h

-- what came behind other bytes
module _ (limit left : ℕ) (start mid new : Option (List ℕ)) (front : List ℕ) (given : Consumes start mid front) (size : left + length front ≡ limit) where
  pub at_fault : (fault : SFault) → (fault ≡ Memory → ⊥) → IsFaultOfFrontUnlessMemory front fault → IsPassed left mid new
      → IsTextAtFault limit start new fault
  at_fault fault n h p = record {
    bytes = front ++ p.bytes;
    given = Consumes-trans start mid new front p.bytes given p.given;
    end = p.end;
    within = omega (arith, length-append front p.bytes, p.within);
    first = first_fault (front ++ p.bytes) fault n (fault_of_all front p.bytes (front ++ p.bytes) fault refl h);
  }

  pub gives_past : (long piece : ℕ) → long ≤ piece → GivesPast left long mid new → GivesPast limit piece start new
  gives_past long piece l p =
      let e = append_assoc front p.front p.last in
      record {
        front = front ++ p.front;
        last = p.last;
        within = omega (arith, length-append front p.front, p.within);
        one_piece = omega (arith, p.one_piece);
        past = omega (arith, ap (λ xs. length xs) e, length-append front (p.front ++ p.last), p.past);
        given = subst (Consumes start new) (sym e) (Consumes-trans start mid new front (p.front ++ p.last) given p.given);
      }

pub past_is_long : (limit piece : ℕ) (old new : Option (List ℕ)) → GivesPast limit piece old new → IfSome old (λ bytes. limit < length bytes)
past_is_long limit piece old new p = Consumes-over old new (p.front ++ p.last) limit p.given p.past
